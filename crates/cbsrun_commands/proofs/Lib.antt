pub mod JobLists
pub mod HouseResults
pub mod ServedJobs
pub mod ResultLines
pub mod Printings
pub mod Endings
pub mod Others
pub mod Drawings
pub mod Wanted
mod PrintedRecords
