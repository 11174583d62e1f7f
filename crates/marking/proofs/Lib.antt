-- What the proofs of several functions use, here and above.
pub mod Lists
pub mod Marking
pub mod Unique
