pub mod State
pub mod Notation
pub mod Parts
pub mod Page
