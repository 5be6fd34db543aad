pub mod Handles
pub mod Expansion
pub mod Laws
pub mod Refusing
pub mod Rows
pub mod Adopting
pub mod Searching
pub mod Knowing
