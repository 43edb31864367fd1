pub mod Documents
pub mod Faults
pub mod Fields
pub mod Memory
pub mod Plans
-- what the clauses name of the libraries below
pub use Rattle.cbs_rate.specs.Limits
