pub mod Members
-- what the clauses name of the libraries below
pub use Rattle.serde_json.specs.Data
pub use Rattle.serde_json.specs.View
