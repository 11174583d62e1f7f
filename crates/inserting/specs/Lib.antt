pub mod Insert
pub mod Sorting
