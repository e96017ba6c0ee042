pub mod Restriction
pub mod Balanced
pub mod Commutator
pub mod Marks
pub mod Contents
pub mod Repeated
