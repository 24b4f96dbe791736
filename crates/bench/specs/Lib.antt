pub mod Demands
pub mod TakenApart
pub mod WhereWrong
pub mod OldCards
pub mod StrictReading
