pub mod Counting
pub mod Laws
