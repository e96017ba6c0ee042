pub mod Runs
pub mod Boards
pub mod Histories
