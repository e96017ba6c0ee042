pub mod Solution
pub mod Equation
