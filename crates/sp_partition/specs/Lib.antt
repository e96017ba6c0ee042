pub mod Held
pub mod Padded
pub mod OrderLaws
pub mod Runs
pub mod Reading
pub mod Pieces
pub mod Nodes
