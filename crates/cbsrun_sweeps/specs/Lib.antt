pub mod Servers
pub mod Sweeps
