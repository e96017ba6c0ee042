pub mod Products
pub mod Gathered
pub mod Brought
pub mod Found
pub mod Weights
pub mod Powers
