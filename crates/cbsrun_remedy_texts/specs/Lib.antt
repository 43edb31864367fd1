pub mod Remedies
