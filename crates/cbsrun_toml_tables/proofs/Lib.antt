pub mod Each
pub mod Places
pub mod Tables
pub mod TakenIn
