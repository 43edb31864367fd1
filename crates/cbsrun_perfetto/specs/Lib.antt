pub mod Events
pub mod Times
pub mod Traces
