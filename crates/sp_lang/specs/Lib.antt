pub mod Words
pub mod Convention
pub mod Commands
pub mod Faults
pub mod Reading
pub mod Given
pub mod Values
