-- What the proofs of several functions use, here and above.
pub mod Turns
pub mod Stopping
pub mod Unique
pub mod Chains
pub mod Values
pub mod Order
