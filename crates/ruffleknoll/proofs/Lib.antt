-- What other crates use.
pub mod Unique
pub mod Fields
pub mod InTurn
