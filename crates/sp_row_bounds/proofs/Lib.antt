pub mod Powers
pub mod Exponents
pub mod Shares
pub mod Rows
pub mod Entries
pub mod Counts
pub mod Ranks
