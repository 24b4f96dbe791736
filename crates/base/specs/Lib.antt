pub mod Promise
pub mod Lists
pub mod Tests
pub mod Moved
pub mod Values
pub mod Pack
pub mod PackLaws
pub mod Pairs
