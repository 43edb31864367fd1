-- A text that is written while it is made, compared with a text that is printed.
use Rattle.std.proofs.Common.{◌≡◌, List, ℕ, refl}
use Rattle.cbsrun_lines.specs.Writers.{Writer, StopsWriting}
use Rattle.cbsrun_lines.specs.declared.run_error.RunError.{RunError}
use Rattle.cbsrun_lines.specs.declared.run_error.RunError.TheVariants.{OutOfMemory, WriteFault, ClockEnd, Stalled}
use Rattle.cbsrun_commands.specs.FaultLines.{StopsPrinting}

-- what is left if writing stops is what is left if printing stops
pub prints_short : (text : List ℕ) (short : Writer → Writer → Type 0) (error : RunError) (old new : Writer) → StopsWriting text short error old new
    → StopsPrinting (λ t. t ≡ text) short error old new
prints_short text short OutOfMemory old new h = h
prints_short text short WriteFault old new h = (text, refl, h)
prints_short text short ClockEnd old new h = h
prints_short text short Stalled old new h = h
