pub mod FirstWrongLaws
pub mod Machines
pub mod Searches
pub mod Endings
pub mod Standing
