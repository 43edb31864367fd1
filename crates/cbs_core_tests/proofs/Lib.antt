pub mod Examples
pub mod OnTimeExamples
