pub mod LastText
pub mod Steps
pub mod TextLaws
