pub mod Outcome
pub mod Integer
