pub mod Collected
pub mod Errors
