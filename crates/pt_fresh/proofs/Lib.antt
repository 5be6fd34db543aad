pub mod StepLaws
pub mod Meanings
pub mod Division
pub mod Comparisons
pub mod Definitions
pub mod Settlings
