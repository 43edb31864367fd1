pub mod Floats
pub mod Growing
pub mod Numbering
