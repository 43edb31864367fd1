pub mod Filters
pub mod Means
pub mod ServerNotes
