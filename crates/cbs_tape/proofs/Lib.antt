pub mod Numbers
pub mod Entries
pub mod Cuts
pub mod Written
pub mod Fronts
pub mod Examples
