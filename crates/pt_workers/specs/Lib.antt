pub mod Works
pub mod Reports
