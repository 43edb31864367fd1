pub mod Accounts
pub mod Worlds
pub mod Replies
pub mod Examples
