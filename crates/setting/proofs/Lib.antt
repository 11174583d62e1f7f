-- What the proofs of several functions use, here and above.
pub mod Setting
pub mod Rows
pub mod Unique
