pub mod Messages
pub mod Marks
pub mod Rings
pub mod Clients
pub mod Steps
pub mod Meters
pub mod HouseInvariant
pub mod Houses
pub mod Turns
pub mod Sinks
pub mod UntilClosed
pub mod Opened
pub mod Errors
pub mod Calls
-- what the clauses name of the libraries below
pub use Rattle.cbs_core.specs.Held
pub use Rattle.cbs_host.specs.Meters as HostMeters
pub use Rattle.cbs_job.specs.Work
pub use Rattle.cbs_rate.specs.Limits
pub use Rattle.cbs_rate.specs.Refusals
pub use Rattle.cbs_steps.specs.Continuations
pub use Rattle.cbs_steps.specs.Setups
