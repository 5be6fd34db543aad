pub mod Shards
pub mod Queries
