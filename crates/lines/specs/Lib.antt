pub mod Lines
pub mod Until
pub mod LineLaws
