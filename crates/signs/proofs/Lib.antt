-- What other crates use.
pub mod Lengths
mod Placing
