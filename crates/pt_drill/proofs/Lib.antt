mod Groups
mod Pieces
pub mod LastLines
pub mod Totals
pub mod Short
