-- What the proofs of several functions use, here and above.
pub mod Decimal
pub mod Shown
