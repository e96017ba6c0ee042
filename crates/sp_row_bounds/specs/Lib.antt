pub mod Powers
pub mod Counts
