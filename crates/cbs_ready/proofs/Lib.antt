pub mod Ordered
pub mod Slots
