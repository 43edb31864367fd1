-- The lines of a task file and of a load: those of their steps.
use Rattle.std.specs.Prelude.{◌≡◌, ℕ, List, ◌++◌, Result}
use Rattle.cbsrun_loads.specs.Loads.{LoadFile}
use Rattle.cbsrun_tasks.specs.TaskFiles.{File}
use Rattle.cbsrun_runs.specs.Loads.{seen_in}
use Rattle.cbsrun_runs.specs.Tasks.{seen_in_tasks}
use Rattle.cbsrun_events.specs.declared.seen.Seen.{Seen}
use Rattle.cbsrun_lines.specs.Lines.{lines_of}
use Rattle.cbsrun_io.specs.Writers.{AppendsFront}
use Rattle.cbsrun_lines.specs.Writers.{Writer, Writes, StopsWriting, Leaves}
use Rattle.cbsrun_lines.specs.declared.run_error.RunError.{RunError}

-- the lines of a task file
abbrev pub trace : File → List ℕ
trace f = lines_of (seen_in_tasks f)

-- the lines of a load
abbrev pub load_lines : LoadFile → List ℕ
load_lines f = lines_of (seen_in f)

-- the text is the lines of the load
abbrev pub AreLoadLines : LoadFile → List ℕ → Type 0
AreLoadLines f text = text ≡ load_lines f

-- The lines of the first steps were written, up to some step, and no call failed. They are a prefix of all lines
pub record WritesSomeLines (steps : List Seen) (old new : Writer) : Type 0 where
  pub later : List Seen
  pub done : List Seen
  pub all : later ++ done ≡ steps
  pub written : Writes old new (lines_of done)
  pub front : AppendsFront old.written new.written (lines_of steps)

-- how the writing of the lines of steps stops. If memory ran out, the lines of the first steps were written, up to some
-- step. If a write failed, a prefix of the lines was written. There is no other cause
abbrev pub LinesStop : List Seen → RunError → Writer → Writer → Type 0
LinesStop steps = StopsWriting (lines_of steps) (WritesSomeLines steps)

-- the result of the writing of the lines of steps, and what it left on the writer
abbrev pub LeavesLines : List Seen → Result (Unit {0}) RunError → Writer → Writer → Type 0
LeavesLines steps = Leaves (lines_of steps) (LinesStop steps)
