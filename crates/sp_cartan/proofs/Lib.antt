pub mod Placing
pub mod SquarePart
pub mod Greatest
pub mod Refusing
pub mod Values
