pub mod Recovery
-- what the clauses name of the libraries below
pub use Rattle.cbs_steps.specs.Setups
