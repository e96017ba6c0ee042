pub mod Beads
pub mod Combined
