-- What the proofs of several functions use, here and above.
pub mod Placing
pub mod Ranges
pub mod Amounts
pub mod Unique
