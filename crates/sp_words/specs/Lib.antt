pub mod Found
pub mod Generated
pub mod Words
