pub mod Ranks
pub mod Corners
pub mod Moves
pub mod Polynomials
pub mod Vectors
pub mod Arrivals
pub mod Sorted
