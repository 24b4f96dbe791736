pub mod Without
pub mod Starts
pub mod StartLaws
pub mod Over
