pub mod Cell
