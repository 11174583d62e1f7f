pub mod Number
pub mod Compare
