pub mod Descent
pub mod Found
pub mod Summing
pub mod Induced
pub mod Units
