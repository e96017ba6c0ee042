pub mod Matrix
pub mod Refusal
pub mod Triangular
pub mod Scope
pub mod Walk
pub mod Cursors
pub mod Agreements
pub mod Conjugates
