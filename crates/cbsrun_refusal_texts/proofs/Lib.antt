mod Helps
mod Laid
mod Listed
pub mod Pages
mod Shares
mod Words
