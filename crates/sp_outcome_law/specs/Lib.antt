pub mod Asking
pub mod Needed
