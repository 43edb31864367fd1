pub mod Times
pub mod Units
pub mod Ledgers
pub mod Paces
