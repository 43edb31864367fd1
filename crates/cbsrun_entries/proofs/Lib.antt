pub mod Gaps
pub mod Names
