-- What the proofs of several functions use, here and above.
pub mod Leaves
pub mod Unique
