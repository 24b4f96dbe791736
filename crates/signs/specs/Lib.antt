pub mod Bytes
pub mod Text
pub mod Lists
pub mod Digits
