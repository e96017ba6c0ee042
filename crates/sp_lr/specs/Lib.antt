pub mod Strips
pub mod Results
