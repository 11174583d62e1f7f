-- What the proofs of several functions use, here and above.
pub mod Results
pub mod Literals
pub mod Standing
pub mod Unique
