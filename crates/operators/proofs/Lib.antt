-- What the proofs of several functions use, here and above.
pub mod ByKind
pub mod Joining
pub mod Holding
pub mod Unique
