-- What the proofs of several functions use, here and above.
pub mod Valid
pub mod Searching
pub mod Among
pub mod Stopping
pub mod Unique
