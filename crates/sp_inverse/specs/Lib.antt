pub mod Within
pub mod Lines
pub mod Turned
