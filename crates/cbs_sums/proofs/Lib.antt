pub mod Read
pub mod Written
pub mod Changes
pub mod Told
