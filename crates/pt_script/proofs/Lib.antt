pub mod Joining
pub mod AskedSets
pub mod SetTellings
pub mod Steps
pub mod Answering
