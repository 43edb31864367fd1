pub mod Hindsight
