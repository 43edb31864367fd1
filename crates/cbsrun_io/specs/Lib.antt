pub mod Counted
pub mod Reads
pub mod Writers
