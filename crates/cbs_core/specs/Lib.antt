pub mod Agreement
pub mod Calls
pub mod Held
pub mod Invariant
pub mod Past
pub mod Waiting
-- what the clauses name of the libraries below
pub use Rattle.cbs_lists.specs.Lists
pub use Rattle.cbs_rate.specs.Limits
pub use Rattle.cbs_rate.specs.Plan
pub use Rattle.cbs_steps.specs.Choice
pub use Rattle.cbs_steps.specs.Faces
pub use Rattle.cbs_steps.specs.History
pub use Rattle.cbs_steps.specs.Lateness
pub use Rattle.cbs_steps.specs.Laws
pub use Rattle.cbs_steps.specs.OnTime
pub use Rattle.cbs_steps.specs.Paced
pub use Rattle.cbs_steps.specs.Promises
pub use Rattle.cbs_steps.specs.Punctual
pub use Rattle.cbs_steps.specs.Quiet
pub use Rattle.cbs_steps.specs.Replies
pub use Rattle.cbs_steps.specs.Servers
pub use Rattle.cbs_steps.specs.Setups
pub use Rattle.cbs_steps.specs.Waiting as StepsWaiting
