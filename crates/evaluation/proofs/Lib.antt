-- What the proofs of several functions use, here and above.
pub mod Stopping
pub mod Narrowing
pub mod Whole
pub mod Passing
pub mod Unique
