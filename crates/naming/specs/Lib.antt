pub mod OneSide
pub mod Side
