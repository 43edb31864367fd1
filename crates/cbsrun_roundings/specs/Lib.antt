pub mod Roundings
pub mod Tables
