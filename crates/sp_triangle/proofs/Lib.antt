pub mod Triangle
pub mod Shares
pub mod NextShare
