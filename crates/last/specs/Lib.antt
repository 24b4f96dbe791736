pub mod Last
pub mod LastIs
pub mod Back
pub mod BackLaws
pub mod LastLaws
pub mod LastIsLaws
