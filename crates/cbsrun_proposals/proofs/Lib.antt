pub mod Best
pub mod Periods
pub mod Backlogs
