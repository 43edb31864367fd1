-- What each verb writes, and what it leaves if it stops early.
use Rattle.std.specs.Prelude.{ℕ, List, Option, Some, None, ◌≡◌, ◌⊎◌, Ok, Err}
use mathlib.Core.List.{IsPrefix}
use Rattle.cbs_job.specs.FileJobs.{of_files}
use Rattle.cbs_job.specs.declared.file.FileJob.{FileJob}
use Rattle.cbs_core.specs.Agreement.{Agrees}
use Rattle.cbs_core.specs.Held.{CoreHeld, HoldsNoJob, IsAtEnd, IsOpen}
use Rattle.cbs_steps.specs.declared.step.Step.{Step}
use Rattle.cbs_clients.specs.Steps.{MayServe}
use Rattle.cbs_steps.specs.Continuations.{◌⊕⊕◌, EachAllowed}
use Rattle.cbs_clients.specs.declared.error.HouseError.{HouseError}
use Rattle.cbs_clients.specs.declared.error.HouseError.TheVariants as house
use Rattle.cbsrun_tasks.specs.TaskFiles.{File}
use Rattle.cbsrun_commands.specs.ResultLines.{jobs_for, result_lines}
use Rattle.cbsrun_runs.specs.Tasks.{start_of_tasks, seen_in_tasks}
use Rattle.cbsrun_lines.specs.Writers.{Writer, IsUntouched, FailsToWrite, Writes, TriesToWrite}
use Rattle.cbsrun_lines.specs.declared.run_error.RunError.{RunError}
use Rattle.cbsrun_lines.specs.declared.run_error.RunError.TheVariants as run
use Rattle.cbsrun_lines.specs.Traces.{trace, LinesStop}
use Rattle.cbsrun_options.specs.declared.actions.Verb.{Verb}
use Rattle.cbsrun_options.specs.declared.actions.Verb.TheVariants.{Replay, Serve}
use Rattle.cbsrun_tasks.specs.Spelling.{file}
use Rattle.cbsrun_toml_tables.specs.Documents.{no_memory}
use Rattle.cbsrun_toml_tables.specs.declared.fault.FileFault.{FileFault}
use Rattle.cbsrun_commands.specs.FaultLines.{file_line, run_line}

-- By steps of serving, a core with the file's servers, modes and backlog comes into a state with this property. To each
-- server the steps submit the first of its jobs in the file, in order, or all of them
pub record ComesTo (f : File) (state : CoreHeld FileJob → Type 0) : Type 0 where
  pub steps : List (Step FileJob)
  pub core : CoreHeld FileJob
  pub allowed : EachAllowed (MayServe of_files) (start_of_tasks f) steps
  pub submits : (s : ℕ) → IsPrefix (jobs_for s steps) (jobs_for s f.steps)
  pub agrees : Agrees of_files core (start_of_tasks f ⊕⊕ steps)
  pub comes : state core

-- no job is unfinished, but some server is open: the end of its client was not received
pub record IsLeftOpen (core : CoreHeld FileJob) : Type 0 where
  pub drained : HoldsNoJob core
  pub unclosed : (s : ℕ) × IsOpen core s

-- why a house that serves the file stops. If out of memory, nothing is said
abbrev pub HouseStops : File → HouseError → Type 0
HouseStops f house.OutOfMemory = Unit {0}
HouseStops f house.ClockEnd = ComesTo f IsAtEnd
HouseStops f house.Stalled = ComesTo f IsLeftOpen
HouseStops f _ = ⊥

-- the run fault that stands for an error of the house, if one does
abbrev pub fault_of : HouseError → Option RunError
fault_of house.OutOfMemory = Some run.OutOfMemory
fault_of house.ClockEnd = Some run.ClockEnd
fault_of house.Stalled = Some run.Stalled
fault_of _ = None

-- how serving stops: if a write failed, a prefix of the results was written; otherwise nothing was
abbrev pub ServeStops : File → RunError → Writer → Writer → Type 0
ServeStops f run.OutOfMemory old new = IsUntouched old new
ServeStops f run.WriteFault old new = FailsToWrite old new (result_lines f)
ServeStops f run.ClockEnd old new = IsUntouched old new × ComesTo f IsAtEnd
ServeStops f run.Stalled old new = IsUntouched old new × ComesTo f IsLeftOpen

-- what a verb writes of a file
abbrev pub output_of : Verb → File → List ℕ
output_of Replay f = trace f
output_of Serve f = result_lines f

-- how a verb stops early
abbrev pub StopsShort : Verb → File → RunError → Writer → Writer → Type 0
StopsShort Replay f = LinesStop (seen_in_tasks f)
StopsShort Serve f = ServeStops f

-- a run over the bytes ended with this status, and left out and err so
pub data Ends (verb : Verb) (bytes : List ℕ) (out out' err err' : Writer) : ℕ → Type 0 where
  done : (f : File) → file bytes ≡ Ok f → Writes out out' (output_of verb f) → IsUntouched err err' → Ends verb bytes out out' err err' 0
  refused : (fault : FileFault) → (fault ≡ no_memory) ⊎ (file bytes ≡ Err fault) → IsUntouched out out' → TriesToWrite err err' (file_line fault)
      → Ends verb bytes out out' err err' 3
  stopped : (f : File) (error : RunError) → file bytes ≡ Ok f → StopsShort verb f error out out' → TriesToWrite err err' (run_line error)
      → Ends verb bytes out out' err err' 4
