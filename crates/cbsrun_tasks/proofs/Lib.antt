pub mod Documents
pub mod OtherSteps
pub mod PairLines
pub mod ReadApart
