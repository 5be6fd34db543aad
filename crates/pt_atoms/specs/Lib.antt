pub mod Sums
pub mod Numbers
pub mod Atoms
pub mod Parameters
pub mod Tables
pub mod Searches
