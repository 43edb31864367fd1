mod Runs
mod Waits
mod WaitingMoves
mod ThrottledTicks
mod Servers
mod KeptReports
mod KeptMoves
mod SeenSteps
mod MadeSteps
mod StepTurns
mod Drawings
pub mod ShownAgain
