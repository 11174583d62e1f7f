pub mod Fold
pub mod Walk
