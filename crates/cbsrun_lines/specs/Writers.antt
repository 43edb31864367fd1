-- What a run leaves on the writer that it was lent.
use Rattle.std.specs.Prelude.{ℕ, List, codes, Result, Ok, Err}
use Rattle.cbsrun_lines.specs.declared.run_error.RunError.{RunError}
use Rattle.cbsrun_lines.specs.declared.run_error.RunError.TheVariants.{OutOfMemory, WriteFault, ClockEnd, Stalled}
pub use Rattle.cbsrun_io.specs.Writers.{Writer, MayWrite, IsUntouched, Writes, WritesAllBut, FailsToWrite, TriesToWrite}

-- the number of each run fault
abbrev pub run_error_number : RunError → ℕ
run_error_number OutOfMemory = 1
run_error_number WriteFault = 2
run_error_number ClockEnd = 3
run_error_number Stalled = 4

-- the name of each run fault
abbrev pub run_error_name : RunError → List ℕ
run_error_name OutOfMemory = codes "OutOfMemory"
run_error_name WriteFault = codes "WriteFault"
run_error_name ClockEnd = codes "ClockEnd"
run_error_name Stalled = codes "Stalled"

-- the result of a run, and what it left on the writer: at Ok its whole output, and at an error what `stops` says
abbrev pub Leaves : List ℕ → (RunError → Writer → Writer → Type 0) → Result (Unit {0}) RunError → Writer → Writer → Type 0
Leaves output stops (Ok x) old new = Writes old new output
Leaves output stops (Err error) old new = stops error old new

-- how a text that is written while it is made stops. If memory ran out, `short` says what was written. If a write
-- failed, a prefix of the text was written. There is no other cause
abbrev pub StopsWriting : List ℕ → (Writer → Writer → Type 0) → RunError → Writer → Writer → Type 0
StopsWriting text short OutOfMemory old new = short old new
StopsWriting text short WriteFault old new = FailsToWrite old new text
StopsWriting text short ClockEnd old new = ⊥
StopsWriting text short Stalled old new = ⊥
