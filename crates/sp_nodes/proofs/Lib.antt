pub mod Walks
pub mod RowMarks
pub mod Hooks
pub mod NodeLists
pub mod Tallies
pub mod Lines
