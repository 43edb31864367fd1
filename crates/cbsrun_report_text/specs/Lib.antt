pub mod Cells
pub mod Notes
pub mod Numbers
pub mod Reports
pub mod Tables
pub mod Texts
