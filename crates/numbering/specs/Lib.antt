pub mod Number
pub mod Asked
pub mod Walk
