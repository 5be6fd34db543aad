pub mod Naming
pub mod Seeing
