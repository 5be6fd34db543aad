pub mod Operations
pub mod Derived
pub mod Pairs
pub mod Searching
pub mod TrackSets
pub mod Caching
