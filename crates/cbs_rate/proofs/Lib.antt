pub mod Lists
pub mod Multiples
pub mod Shares
pub mod Plans
pub mod Budgets
pub mod Rooms
