pub mod Contracts
pub mod OneOutcome
