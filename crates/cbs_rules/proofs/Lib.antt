pub mod Deadlines
pub mod States
pub mod Replenishments
pub mod Paid
pub mod Charges
