-- What the proofs of several functions use, here and above.
pub mod Stack
pub mod Words
pub mod Steps
pub mod Scanning
pub mod Unique
pub mod Numbers
pub mod Denoting
