pub mod Remedies
pub mod Sources
