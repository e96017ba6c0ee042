pub mod SumSteps
pub mod Rows
pub mod Places
