-- What the proofs of several functions use, here and above.
pub mod Walking
pub mod Stopping
pub mod Unique
pub mod Meaning
pub mod Numbered
pub mod Calls
