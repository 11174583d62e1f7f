-- What the proofs of several functions use, here and above.
pub mod Reading
pub mod Lawful
pub mod Twice
pub mod Ordered
pub mod Merging
pub mod Joined
