pub mod Bind
pub mod Asked
