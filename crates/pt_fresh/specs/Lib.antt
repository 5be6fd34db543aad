pub mod Integers
pub mod Making
pub mod Outcomes
pub mod Pairs
pub mod Builders
pub mod Sides
