pub mod Reading
pub mod Indices
pub mod Growing
pub mod Collecting
pub mod Opening
