pub mod Bits
pub mod Projecting
pub mod Families
pub mod Closing
pub mod Numbered
pub mod Searching
pub mod Caching
