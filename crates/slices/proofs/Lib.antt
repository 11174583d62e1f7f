-- What the proofs of several functions use, here and above.
pub mod Splice
pub mod Pieces
pub mod Bytes
pub mod Both
pub mod Extends
