pub mod Ranks
pub mod Searching
