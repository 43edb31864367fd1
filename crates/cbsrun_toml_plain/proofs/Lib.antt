mod Digits
pub mod Tables
mod Trivia
