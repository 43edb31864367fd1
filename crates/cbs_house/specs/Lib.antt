pub mod Feeds
pub mod Lends
pub mod Rounds
-- what the clauses name of the libraries below
pub use Rattle.cbs_clients.specs.Calls
pub use Rattle.cbs_clients.specs.Houses
pub use Rattle.cbs_clients.specs.Opened
pub use Rattle.cbs_clients.specs.contracts.client.Client
pub use Rattle.cbs_core.specs.Held
pub use Rattle.cbs_host.specs.Meters
pub use Rattle.cbs_rate.specs.Limits
pub use Rattle.cbs_rate.specs.Refusals
pub use Rattle.cbs_steps.specs.Setups
