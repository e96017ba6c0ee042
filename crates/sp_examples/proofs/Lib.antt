pub mod Partitions
pub mod Polynomials
pub mod LadderVectors
pub mod Rows
pub mod Signatures
pub mod Abacus
pub mod Texts
