-- What other crates use.
pub mod Unique
pub mod First
pub mod Counting
pub mod Bools
