pub mod Answer
pub mod Tells
pub mod Row
pub mod Earlier
