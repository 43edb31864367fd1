pub mod Signs
pub mod Timelines
