-- What the proofs of several functions use, here and above.
pub mod Reading
pub mod Stacking
pub mod Running
pub mod Unique
