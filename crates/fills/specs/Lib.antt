pub mod Fills
pub mod FillComplete
pub mod FillSound
pub mod FillOne
