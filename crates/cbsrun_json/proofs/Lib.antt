pub mod Listed
pub mod Plain
pub mod Putting
