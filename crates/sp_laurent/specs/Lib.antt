pub mod Held
pub mod Grown
pub mod Readable
pub mod Pieces
