pub mod Ast
pub mod Table
