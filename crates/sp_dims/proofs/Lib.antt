pub mod Factorials
pub mod Solving
pub mod Rows
pub mod Products
pub mod Walk
