-- What the proofs of several functions use, here and above.
pub mod Naming
pub mod Joining
pub mod Unique
