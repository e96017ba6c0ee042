pub mod Filling
pub mod Strip
pub mod Listing
