pub mod Told
pub mod Stop
