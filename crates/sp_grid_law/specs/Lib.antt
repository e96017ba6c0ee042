pub mod Tables
pub mod Products
pub mod Inverses
pub mod Columns
pub mod Solved
pub mod Lines
