pub mod Arrivals
pub mod Fault
