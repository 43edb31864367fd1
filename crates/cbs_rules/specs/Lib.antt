pub mod Rules
pub mod Setups
-- what the clauses name of the libraries below
pub use Rattle.cbs_rate.specs.Limits
pub use Rattle.cbs_rate.specs.Plan
pub use Rattle.cbs_rate.specs.Refusals
