-- What the proofs use, here and above.
pub mod Turns
