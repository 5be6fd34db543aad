pub mod Forms
pub mod Values
pub mod Sums
pub mod Truth
pub mod Formulas
pub mod Entries
pub mod Costs
pub mod Oddness
