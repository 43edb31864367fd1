pub mod Pairs
mod Begins
mod Judged
