pub mod Key
pub mod Comparable
