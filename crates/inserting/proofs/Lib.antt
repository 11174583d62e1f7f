-- What the proofs of several functions use, here and above.
pub mod Passing
pub mod Calls
pub mod Unique
pub mod InKeyOrder
