pub mod ChainKeys
pub mod ChainPops
pub mod ChainPushes
pub mod ChainRooms
pub mod QueuedJobs
pub mod QueueRuns
pub mod UnitsTakenIn
