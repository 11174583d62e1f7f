-- What the proofs of several functions use, here and above.
pub mod Stops
pub mod Turns
pub mod Unique
