pub mod Over
pub mod Pages
pub mod Refusals
