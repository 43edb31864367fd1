pub mod Noted
pub mod Servers
pub mod Sources
pub mod Times
-- what the clauses name of the libraries below
pub use Rattle.cbs_rate.specs.Limits
pub use Rattle.cbs_rules.specs.Rules
pub use Rattle.cbsrun_toml_tables.specs.Fields
