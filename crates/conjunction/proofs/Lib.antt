-- What the proofs of several functions use, here and above.
pub mod Stopping
pub mod Joining
pub mod Whole
pub mod Unique
