-- What the proofs of several functions use, here and above.
pub mod Ways
pub mod Growing
pub mod Walking
