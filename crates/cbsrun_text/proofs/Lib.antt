pub mod Texts
pub mod Widths
pub mod Rows
