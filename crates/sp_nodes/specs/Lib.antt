pub mod Nodes
pub mod Marks
pub mod Rows
pub mod Texts
pub mod Filling
