-- What other crates use.
pub mod Fields
pub mod Rows
pub mod Earlier
pub mod Unique
pub mod Apart
