-- What the proofs of several functions use, here and above.
pub mod Giving
pub mod NodeKind
pub mod Leaves
pub mod Deciding
pub mod Lying
pub mod Descent
pub mod Walk
pub mod Unique
