pub mod Words
pub mod Exprs
pub mod Forms
pub mod ItemForms
pub mod Verbs
