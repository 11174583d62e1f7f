pub mod Form
pub mod Held
pub mod Number
