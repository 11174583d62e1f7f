-- What the proofs of several functions use, here and above.
pub mod Settling
pub mod Textless
pub mod Worth
pub mod Unique
