pub mod Proposals
-- what the clauses name of the libraries below
pub use Rattle.cbs_guarantee.specs.Sources
pub use Rattle.cbs_rate.specs.Rate
