pub mod Runs
pub mod Numbers
pub mod Registers
pub mod RunLaws
pub mod CodeLaws
pub mod NumberLaws
pub mod RegisterLaws
