pub mod Pairs
pub mod Passes
pub mod Chosen
pub mod Descending
pub mod Climbing
pub mod Reducing
