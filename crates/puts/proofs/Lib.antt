-- What other crates use.
pub mod Putting
