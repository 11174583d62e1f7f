pub mod Writing
pub mod Marked
