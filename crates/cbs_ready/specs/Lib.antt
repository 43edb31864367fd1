pub mod ReadyList
-- what the clauses name of the libraries below
pub use Rattle.cbs_rate.specs.Limits
