pub mod Charts
pub mod Chosen
pub mod Courses
pub mod Hidden
pub mod Jobs
pub mod Marks
pub mod Rows
pub mod Ticks
-- what the clauses name of the libraries below
pub use Rattle.cbs_rate.specs.Rate
pub use Rattle.cbsrun_events.specs.declared.seen.Event
pub use Rattle.cbsrun_events.specs.declared.seen.Seen
