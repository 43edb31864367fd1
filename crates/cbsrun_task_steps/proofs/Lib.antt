pub mod MoreSteps
pub mod PlainSteps
