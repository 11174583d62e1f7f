-- What the proofs of several functions use, here and above.
pub mod Words
pub mod Reading
