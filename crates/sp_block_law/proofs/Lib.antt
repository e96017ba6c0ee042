pub mod BeadSteps
pub mod Heights
pub mod Contents
pub mod Law
pub mod RowBlocks
pub mod Worked
