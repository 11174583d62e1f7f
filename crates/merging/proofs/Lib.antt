-- What the proofs of several functions use, here and above.
pub mod Earlier
pub mod Copying
pub mod Turns
