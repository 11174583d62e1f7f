-- What the proofs of several functions use, here and above.
pub mod Alike
pub mod Columns
pub mod Places
pub mod Calling
pub mod Unique
pub mod ReadBack
pub mod Forms
pub mod Evaluating
pub mod Promise
