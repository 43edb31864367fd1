pub mod Paced
pub mod Timed
