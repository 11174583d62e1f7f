-- What the proofs of several functions use, here and above.
pub mod Listing
pub mod Turns
pub mod Unique
