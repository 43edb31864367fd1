pub mod Spelling
pub mod Streams
pub mod TaskFiles
pub mod TopTables
-- what the clauses name of the libraries below
pub use Rattle.cbs_rate.specs.Limits
pub use Rattle.cbsrun_toml_tables.specs.Memory
pub use Rattle.cbsrun_toml_tables.specs.Documents
pub use Rattle.cbsrun_toml_tables.specs.Fields
pub use Rattle.cbsrun_toml_tables.specs.declared.fault.FileKind
pub use Rattle.cbsrun_toml.specs.Reading
pub use Rattle.cbsrun_task_steps.specs.Entries
