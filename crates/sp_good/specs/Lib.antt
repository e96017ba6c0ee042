pub mod Climb
pub mod Reduction
