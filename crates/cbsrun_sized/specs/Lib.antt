pub mod Admitted
pub mod Sized
-- what the clauses name of the libraries below
pub use Rattle.cbsrun_loads.specs.Sketches
pub use Rattle.cbsrun_loads.specs.Spelling
pub use Rattle.cbsrun_proposals.specs.Proposals
pub use Rattle.cbsrun_sizing.specs.ServerLoads
