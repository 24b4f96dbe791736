pub mod Changes
pub mod Registers
