pub mod Commands
pub mod Drawings
pub mod Environment
pub mod FaultLines
pub mod Outputs
pub mod Records
pub mod ResultLines
pub mod Sweeps
pub mod Verbs
-- what the clauses name of the libraries below
pub use Rattle.cbs_clients.specs.Houses
pub use Rattle.cbsrun_lines.specs.Writers
pub use Rattle.cbsrun_lines.specs.declared.run_error.RunError
pub use Rattle.cbsrun_tasks.specs.TaskFiles
