pub mod Loads
pub mod Records
pub mod Runs
pub mod Steps
pub mod Tasks
-- what the clauses name of the libraries below
pub use Rattle.cbs_core.specs.Agreement
pub use Rattle.cbs_job.specs.FileJobs
pub use Rattle.cbs_steps.specs.Continuations
pub use Rattle.cbs_steps.specs.History
pub use Rattle.cbsrun_events.specs.declared.seen.Seen
pub use Rattle.cbsrun_tasks.specs.TaskFiles
