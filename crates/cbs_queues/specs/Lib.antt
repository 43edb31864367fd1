pub mod Chains
pub mod Lends
pub mod Queues
-- what the clauses name of the libraries below
pub use Rattle.cbs_lists.specs.Lists
pub use Rattle.cbs_rate.specs.Limits
