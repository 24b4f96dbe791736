pub mod Answers
pub mod Mirror
