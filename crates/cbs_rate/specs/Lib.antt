pub mod Limits
pub mod Bound
pub mod Errors
pub mod Plan
pub mod Rate
pub mod Refusals
pub mod Room
pub mod Sums
