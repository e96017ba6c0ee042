pub mod Square
pub mod Refusals
pub mod Cartan
pub mod Characters
