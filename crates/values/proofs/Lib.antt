-- What the proofs of several functions use, here and above.
pub mod ByKind
pub mod Truth
pub mod Ordered
pub mod ByWord
pub mod Unique
