pub mod Recorded
-- what the clauses name of the libraries below
pub use Rattle.cbsrun_records.specs.Spelling
pub use Rattle.cbsrun_runs.specs.Records
pub use Rattle.cbsrun_runs.specs.Runs
