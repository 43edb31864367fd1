pub mod Growing
pub mod Widths
