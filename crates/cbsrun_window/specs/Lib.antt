pub mod Counts
pub mod Stretches
pub mod Windows
