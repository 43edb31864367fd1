pub mod Actions
pub mod Fits
pub mod Options
