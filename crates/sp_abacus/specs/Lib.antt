pub mod Fit
pub mod Text
