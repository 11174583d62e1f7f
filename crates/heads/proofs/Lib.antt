-- What the proofs of several functions use, here and above.
pub mod Stopping
pub mod Rising
pub mod Calling
pub mod Unique
pub mod Sound
