pub mod Powers
pub mod Added
pub mod Below
pub mod Rings
