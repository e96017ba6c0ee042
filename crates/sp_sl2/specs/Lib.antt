pub mod Targets
pub mod Multiples
