pub mod Bytes
pub mod Lexemes
pub mod Lists
pub mod Within
pub mod Rest
pub mod Fronts
pub mod Cursors
pub mod Sizes
