pub mod Lines
pub mod Records
pub mod Traces
pub mod Writers
-- what the clauses name of the libraries below
pub use Rattle.cbsrun_events.specs.declared.seen.Seen
pub use Rattle.cbsrun_runs.specs.Tasks
