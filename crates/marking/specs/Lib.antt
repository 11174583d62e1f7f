pub mod RowList
pub mod Marks
pub mod Whole
