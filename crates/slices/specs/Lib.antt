pub mod Splice
pub mod Bytes
