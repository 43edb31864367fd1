mod LinesAgain
pub mod Writers
pub mod LineSteps
