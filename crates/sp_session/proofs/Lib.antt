pub mod Labels
pub mod Made
pub mod Painted
pub mod Refused
pub mod Runs
pub mod SimpleDims
pub mod Summing
pub mod Sure
