pub mod Agreeing
pub mod Levels
pub mod Pushes
pub mod Walks
