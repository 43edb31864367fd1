pub mod FreeSlots
pub mod Lists
pub mod Sums
