-- What the proofs of several functions use, here and above.
pub mod TwosComplement
pub mod Words
pub mod Stops
