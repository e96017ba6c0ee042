pub mod Blocks
pub mod Indexed
