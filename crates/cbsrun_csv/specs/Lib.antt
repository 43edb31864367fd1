pub mod Csv
pub mod Jobs
pub mod Kept
pub mod Lines
