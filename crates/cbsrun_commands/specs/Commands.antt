-- What a command on a file leaves on its writers, by its result and by its status.
use Rattle.std.specs.Prelude.{◌≡◌, ◌≢◌, ◌⊎◌, ◌&&◌, ℕ, Bool, true, not, if◌then◌else◌, List, Option, Some, None, Result, Ok, Err}
use Rattle.cbsrun_window.specs.declared.shown.NothingShown.{NothingShown}
use Rattle.cbsrun_toml_tables.specs.Documents.{no_memory}
use Rattle.cbsrun_toml_tables.specs.declared.fault.FileFault.{FileFault}
use Rattle.cbsrun_lines.specs.Writers.{Writer, FailsToWrite, IsUntouched, Writes, TriesToWrite}
use Rattle.cbsrun_commands.specs.FaultLines.{run_line, nothing_shown_line, Explains, ExplainsAll, StopsPrinting}
use Rattle.cbsrun_lines.specs.declared.run_error.RunError.{RunError}
use Rattle.cbsrun_lines.specs.declared.run_error.RunError.TheVariants.{WriteFault}
use Rattle.cbsrun_commands.specs.declared.ending.Stopped.{Stopped}
use Rattle.cbsrun_commands.specs.declared.ending.Stopped.TheVariants.{Unread, Ended, Run}

-- a command on files of one kind: how bytes spell a file, which texts the command may print of it, what it leaves if out
-- of memory, and what it tells of a file that has nothing to show
pub record Command (F : Type 0) : Type 1 where
  pub read : List ℕ → Result F FileFault
  pub prints : F → List ℕ → Type 0
  pub short : F → Writer → Writer → Type 0
  pub nothing : F → NothingShown → Type 0

-- a command that prints a text of each file. The text is made before it is written
abbrev pub printing_command : {F : Type 0} → (List ℕ → Result F FileFault) → (F → List ℕ → Type 0) → Command F
printing_command read prints = record { read = read; prints = prints; short = λ f. IsUntouched; nothing = λ f e. ⊥ }

-- what the command on the bytes left on the output, by its result: at Ok a whole text
abbrev pub Does : {F A : Type 0} → Command F → List ℕ → Result A Stopped → Writer → Writer → Type 0
Does {F} c bytes (Ok x) old new = (f : F) × (text : List ℕ) × (c.read bytes ≡ Ok f) × c.prints f text × Writes old new text
Does {F} c bytes (Err (Unread fault)) old new = ((fault ≡ no_memory) ⊎ (c.read bytes ≡ Err fault)) × IsUntouched old new
Does {F} c bytes (Err (Ended e)) old new = (f : F) × (c.read bytes ≡ Ok f) × c.nothing f e × IsUntouched old new
Does {F} c bytes (Err (Run error)) old new = (f : F) × (c.read bytes ≡ Ok f) × StopsPrinting (c.prints f) (c.short f) error old new

-- a run ended early by a write that found a closed pipe: nobody reads its output any more
abbrev pub IsClosedPipe : RunError → Bool → Type 0
IsClosedPipe error closed = (error ≡ WriteFault) × (closed ≡ true)

-- how a run that ended early was told, with this status: by nothing and 0 at a closed pipe, else by its line and 4
abbrev pub TellsRun : RunError → Bool → Writer → Writer → ℕ → Type 0
TellsRun error closed old new status =
    (IsClosedPipe error closed × (status ≡ 0) × IsUntouched old new)
    ⊎ ((¬ IsClosedPipe error closed) × (status ≡ 4) × TriesToWrite old new (run_line error))

-- how a command on the file with this name and these bytes ended was told, and this is its status. The last write that
-- failed found a closed pipe if `closed` is true
abbrev pub Tells : List ℕ → List ℕ → Bool → Result (Unit {0}) Stopped → Writer → Writer → ℕ → Type 0
Tells name bytes closed (Ok x) old new status = (status ≡ 0) × IsUntouched old new
Tells name bytes closed (Err (Unread fault)) old new status = (status ≡ 3) × Explains name bytes fault old new
Tells name bytes closed (Err (Ended e)) old new status = (status ≡ 2) × TriesToWrite old new (nothing_shown_line e.from e.end)
Tells name bytes closed (Err (Run error)) old new status = TellsRun error closed old new status

-- the status of a command that is done, with this answer: 1 if `--strict` is given and the answer is no
abbrev pub status_done : Bool → Bool → ℕ
status_done strict answer = if strict && not answer then 1 else 0

-- the same of a command whose answer is yes or no. With `--strict` a closed pipe is told as any write that failed
abbrev pub TellsAnswer : Bool → List ℕ → List ℕ → Bool → Result Bool Stopped → Writer → Writer → ℕ → Type 0
TellsAnswer strict name bytes closed (Ok answer) old new status = (status ≡ status_done strict answer) × IsUntouched old new
TellsAnswer strict name bytes closed (Err stopped) old new status = Tells name bytes (closed && not strict) (Err stopped) old new status

-- the same of `check`, which explains the other faults of a file, too
abbrev pub TellsCheck : Bool → List ℕ → List ℕ → Bool → Result Bool Stopped → Writer → Writer → ℕ → Type 0
TellsCheck strict name bytes closed (Err (Unread fault)) old new status = (status ≡ 3) × ExplainsAll name bytes fault old new
TellsCheck strict name bytes closed ended old new status = TellsAnswer strict name bytes closed ended old new status

-- A command on the file with this name and these bytes ended with this status, and left out and err so. At 0 a text is
-- printed, whole, or up to a write that found a closed pipe. At 2 there is nothing to show. At 3 the bytes spell no such
-- file, or memory was refused. At 4 the run ended early
pub data EndsAs {F : Type 0} (c : Command F) (name bytes : List ℕ) (closed : Bool) (out out' err err' : Writer) : ℕ → Type 0 where
  done : (f : F) (text : List ℕ) → c.read bytes ≡ Ok f → c.prints f text → Writes out out' text → IsUntouched err err'
      → EndsAs c name bytes closed out out' err err' 0
  closed_pipe : (f : F) (text : List ℕ) → c.read bytes ≡ Ok f → c.prints f text → FailsToWrite out out' text → closed ≡ true
      → IsUntouched err err' → EndsAs c name bytes closed out out' err err' 0
  nothing_shown : (f : F) (e : NothingShown) → c.read bytes ≡ Ok f → c.nothing f e → IsUntouched out out'
      → TriesToWrite err err' (nothing_shown_line e.from e.end) → EndsAs c name bytes closed out out' err err' 2
  refused : (fault : FileFault) → (fault ≡ no_memory) ⊎ (c.read bytes ≡ Err fault) → IsUntouched out out' → Explains name bytes fault err err'
      → EndsAs c name bytes closed out out' err err' 3
  stopped : (f : F) (error : RunError) → c.read bytes ≡ Ok f → StopsPrinting (c.prints f) (c.short f) error out out'
      → ¬ IsClosedPipe error closed → TriesToWrite err err' (run_line error) → EndsAs c name bytes closed out out' err err' 4

-- A command whose answer of a file is yes or no ended with this status, and left out and err so. If it is done, its text
-- is printed whole, and the answer is told by the status if `--strict` is given. Else it ended as any command does, but
-- with `--strict` never with the status 0, and so not at a closed pipe
pub data EndsByAnswer {F : Type 0} (c : Command F) (answers : F → Bool → Type 0) (strict : Bool) (name bytes : List ℕ) (closed : Bool)
    (out out' err err' : Writer) : ℕ → Type 0 where
  answered : (f : F) (text : List ℕ) (answer : Bool) → c.read bytes ≡ Ok f → c.prints f text → answers f answer → Writes out out' text
      → IsUntouched err err' → EndsByAnswer c answers strict name bytes closed out out' err err' (status_done strict answer)
  not_done : (status : ℕ) → (strict ≡ true → status ≢ 0) → EndsAs c name bytes (closed && not strict) out out' err err' status
      → EndsByAnswer c answers strict name bytes closed out out' err err' status

-- `check` ended with this status, and left out and err so: as any command whose answer is yes or no, but at 3 the other
-- faults of the file may be explained, too
pub data EndsCheck {F : Type 0} (c : Command F) (answers : F → Bool → Type 0) (strict : Bool) (name bytes : List ℕ) (closed : Bool)
    (out out' err err' : Writer) : ℕ → Type 0 where
  checked : (status : ℕ) → status ≢ 3 → EndsByAnswer c answers strict name bytes closed out out' err err' status
      → EndsCheck c answers strict name bytes closed out out' err err' status
  unread : (fault : FileFault) → (fault ≡ no_memory) ⊎ (c.read bytes ≡ Err fault) → IsUntouched out out' → ExplainsAll name bytes fault err err'
      → EndsCheck c answers strict name bytes closed out out' err err' 3

-- what a command that may find nothing to print left on the output, by its result: with no reason a whole text. With a
-- reason there is none, and `lacks` says so
abbrev pub DoesOrLacks : {F A : Type 0} → Command F → (F → Type 0) → List ℕ → Result (Option A) Stopped → Writer → Writer → Type 0
DoesOrLacks c lacks bytes (Ok None) old new = Does {A = Unit {0}} c bytes (Ok (tt {0})) old new
DoesOrLacks {F} c lacks bytes (Ok (Some why)) old new = (f : F) × (c.read bytes ≡ Ok f) × lacks f × IsUntouched old new
DoesOrLacks c lacks bytes (Err cause) old new = Does {A = Unit {0}} c bytes (Err cause) old new

-- how a command that may find nothing to print ended was told, with this status: with no reason as any command, and with a
-- reason by 1. What is written of the reason may be cut short
abbrev pub TellsOrLacks : {A : Type 0} → List ℕ → List ℕ → Bool → Result (Option A) Stopped → Writer → Writer → ℕ → Type 0
TellsOrLacks name bytes closed (Ok None) old new status = Tells name bytes closed (Ok (tt {0})) old new status
TellsOrLacks name bytes closed (Ok (Some why)) old new status = (status ≡ 1) × ((told : List ℕ) × TriesToWrite old new told)
TellsOrLacks name bytes closed (Err cause) old new status = Tells name bytes closed (Err cause) old new status

-- A command that may find nothing to print ended with this status, and left out and err so. If there is a text, it ended
-- as any command does. Else the status is 1, and what is written to err may be cut short
pub data EndsOrLacks {F : Type 0} (c : Command F) (lacks : F → Type 0) (name bytes : List ℕ) (closed : Bool) (out out' err err' : Writer)
    : ℕ → Type 0 where
  ended : (status : ℕ) → EndsAs c name bytes closed out out' err err' status → EndsOrLacks c lacks name bytes closed out out' err err' status
  lacking : (f : F) (told : List ℕ) → c.read bytes ≡ Ok f → lacks f → IsUntouched out out' → TriesToWrite err err' told
      → EndsOrLacks c lacks name bytes closed out out' err err' 1
