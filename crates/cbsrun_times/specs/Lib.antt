pub mod Decimals
pub mod Ticks
pub mod Units
