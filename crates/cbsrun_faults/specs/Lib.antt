pub mod Documents
pub mod Spots
pub mod Refused
-- what the clauses name of the libraries below
pub use Rattle.cbsrun_toml_tables.specs.declared.fault.Place
