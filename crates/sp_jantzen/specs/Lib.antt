pub mod Beads
