pub mod Agreeing
pub mod Firsts
