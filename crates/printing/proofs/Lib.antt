-- What the proofs of several functions use, here and above.
pub mod Texts
pub mod Calling
pub mod Unique
