pub mod Asked
pub mod Budgets
pub mod Lateness
pub mod Recoveries
pub mod ServerLoads
-- what the clauses name of the libraries below
pub use Rattle.cbs_rate.specs.Plan
