pub mod Figures
pub mod Percentiles
pub mod Tallies
-- what the clauses name of the libraries below
pub use Rattle.cbsrun_events.specs.declared.seen.Seen
