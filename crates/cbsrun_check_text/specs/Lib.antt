pub mod Cells
pub mod Checks
pub mod Fractions
pub mod Notes
pub mod Tables
