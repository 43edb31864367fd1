pub mod Units
pub mod Ledgers
