pub mod Walks
pub mod Showing
pub mod Together
pub mod Taking
pub mod Writing
