pub mod Jantzen
pub mod Agreement
pub mod Cells
pub mod Dims
