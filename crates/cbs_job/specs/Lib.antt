pub mod Work
pub mod Numbers
pub mod FileJobs
pub mod Tasks
-- what the clauses name of the libraries below
pub use Rattle.cbs_rate.specs.Limits
pub use Rattle.cbs_rate.specs.Refusals
