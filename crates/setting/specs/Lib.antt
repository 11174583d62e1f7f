pub mod Sets
pub mod Asked
