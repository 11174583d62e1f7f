-- What the proofs of several functions use, here and above.
pub mod Writing
pub mod Leaves
pub mod Parsing
pub mod Lengths
pub mod Numbers
pub mod Readable
pub mod Reading
pub mod Joined
pub mod Passing
