pub mod Print
pub mod Prepare
