pub mod Meters
pub mod Pauses
-- what the clauses name of the libraries below
pub use Rattle.cbs_job.specs.declared.completion.Completion
