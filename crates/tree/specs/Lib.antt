pub mod Seen
pub mod Blank
