pub mod Spell
pub mod Walk
