pub mod Sorted
pub mod Moves
pub mod Terms
pub mod Walks
pub mod Totals
