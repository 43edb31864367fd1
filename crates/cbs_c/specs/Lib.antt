pub mod Live
pub mod Openings
pub mod Paces
pub mod Statuses
pub mod Values
-- what the clauses name of the libraries below
pub use Rattle.cbs_embed.specs.Calls
pub use Rattle.cbs_embed.specs.Handles
