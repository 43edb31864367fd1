pub mod Told
pub mod States
pub mod Recorded
