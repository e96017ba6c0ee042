pub mod Joined
pub mod Addition
pub mod Tally
pub mod Grid
pub mod Sparse
