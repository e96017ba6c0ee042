pub mod Refilled
pub mod Unique
