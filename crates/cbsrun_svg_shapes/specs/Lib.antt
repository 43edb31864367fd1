pub mod Axes
pub mod Columns
pub mod Layouts
pub mod Marks
pub mod Shapes
pub mod Spans
-- what the clauses name of the libraries below
pub use Rattle.cbsrun_window.specs.Counts
