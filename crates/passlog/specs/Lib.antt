pub mod Log
pub mod Spelling
pub mod SpellingLaws
pub mod Steps
pub mod StepLaws
pub mod OutputLaws
pub mod Figures
