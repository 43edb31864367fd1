pub mod Csv
pub mod Json
pub mod Tables
pub mod Texts
