pub mod Entries
pub mod Plain
pub mod Steps
-- what the clauses name of the libraries below
pub use Rattle.cbs_rate.specs.Limits
pub use Rattle.cbsrun_toml_tables.specs.Fields
pub use Rattle.cbsrun_toml_tables.specs.declared.fault.FileKind
pub use Rattle.cbsrun_toml.specs.Reading
