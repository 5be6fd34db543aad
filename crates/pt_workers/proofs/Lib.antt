pub mod Dealing
pub mod Refusing
pub mod Handing
pub mod Joining
