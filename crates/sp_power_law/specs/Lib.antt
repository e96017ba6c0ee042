pub mod Walk
pub mod Runs
