pub mod Figures
pub mod Lines
pub mod Answered
pub mod LaneFigures
pub mod Printed
pub mod CardFigures
pub mod TurnsApart
