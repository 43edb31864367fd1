pub mod Entries
pub mod Kinds
pub mod Parts
pub mod Records
pub mod Spelling
pub mod Taped
pub mod TopTables
-- what the clauses name of the libraries below
pub use Rattle.cbs_rate.specs.Limits
pub use Rattle.cbs_rules.specs.Rules
pub use Rattle.cbs_tape.specs.Reading
pub use Rattle.cbsrun_toml_tables.specs.Memory
pub use Rattle.cbsrun_toml_tables.specs.Documents
pub use Rattle.cbsrun_toml_tables.specs.Fields
