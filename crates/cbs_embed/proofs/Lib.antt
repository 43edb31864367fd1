pub mod AsBox
pub mod Moves
pub mod Tokens
pub mod Openings
pub mod InHandles
pub mod Admissions
pub mod Drops
pub mod Polled
