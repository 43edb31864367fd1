pub mod Due
pub mod Faults
pub mod Loads
pub mod Sketches
pub mod Spelling
pub mod TopTables
-- what the clauses name of the libraries below
pub use Rattle.cbs_rate.specs.Limits
pub use Rattle.cbs_rules.specs.Rules
pub use Rattle.cbsrun_toml_tables.specs.Memory
pub use Rattle.cbsrun_toml_tables.specs.Documents
pub use Rattle.cbsrun_toml_tables.specs.Fields
pub use Rattle.cbsrun_entries.specs.Noted
pub use Rattle.cbsrun_entries.specs.Sources
pub use Rattle.cbsrun_entries.specs.Times
