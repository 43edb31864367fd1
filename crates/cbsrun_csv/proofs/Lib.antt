pub mod Keeping
pub mod Pieces
pub mod Reported
