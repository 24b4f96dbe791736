pub mod Mirror
pub mod PlacedLaws
