pub mod CutLists
mod Cuts
mod Examples
pub mod Hindsight
