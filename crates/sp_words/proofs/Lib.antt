pub mod Clap
pub mod Making
pub mod Parses
pub mod Saying
pub mod Turns
