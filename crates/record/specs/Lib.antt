pub mod Registers
pub mod Modifiers
pub mod Operands
pub mod Refusals
