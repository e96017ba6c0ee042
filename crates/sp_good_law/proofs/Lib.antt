pub mod Kept
pub mod Marks
pub mod Parted
pub mod GoodNodes
pub mod CogoodNodes
pub mod MoveLaw
