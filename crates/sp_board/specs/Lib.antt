pub mod Claimed
pub mod History
pub mod Table
pub mod Answers
pub mod Kept
pub mod Law
