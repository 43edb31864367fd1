pub mod Heads
pub mod Pictures
pub mod Rows
