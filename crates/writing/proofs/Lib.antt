-- What other crates use.
pub mod Reports
pub mod Unique
pub mod Answers
