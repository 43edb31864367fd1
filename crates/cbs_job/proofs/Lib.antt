pub mod FileJobs
pub mod Numbers
pub mod WholeResults
