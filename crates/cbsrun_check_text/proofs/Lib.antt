pub mod Divisors
pub mod Jobs
pub mod Rows
pub mod Texts
pub mod Plans
