pub mod Layers
pub mod MissingItems
