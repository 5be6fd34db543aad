pub mod Runs
pub mod Output
pub mod Wanted
pub mod Ending
pub mod Parts
pub mod Modes
