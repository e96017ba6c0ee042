pub mod Verdict
pub mod SoFar
pub mod Law
