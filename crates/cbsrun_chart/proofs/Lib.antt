pub mod Apart
pub mod Bars
pub mod Choosing
pub mod Covers
pub mod Numbers
pub mod Rows
pub mod Ticks
