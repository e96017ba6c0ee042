pub mod Setting
pub mod RowsLaw
pub mod Contents
