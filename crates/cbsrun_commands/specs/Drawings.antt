-- What a command that draws prints, and how it ends.
use Rattle.std.specs.Prelude.{◌≡◌, ◌⊎◌, ◌||◌, ℕ, Bool, true, false, bytes_eq, leb, if◌then◌else◌, List, ◌++◌, codes, decimal, Option, Some, None, Result, Ok, Err, slice_get, string_bytes}
use Rattle.std.specs.List.{list_all, list_any}
use Rattle.cbsrun_window.specs.Windows.{AnswersShown}
use Rattle.cbsrun_window.specs.declared.shown.NothingShown.{NothingShown}
use Rattle.cbsrun_window.specs.declared.window.Window.{Window}
use Rattle.cbsrun_chart.specs.Chosen.{IsChosen}
use Rattle.cbsrun_chart.specs.declared.picture.Picture.{Picture}
use Rattle.cbsrun_toml_tables.specs.Documents.{no_memory}
use Rattle.cbsrun_toml_tables.specs.declared.fault.FileFault.{FileFault}
use Rattle.cbsrun_lines.specs.Writers.{Writer, FailsToWrite, IsUntouched, Writes, TriesToWrite}
use Rattle.cbsrun_lines.specs.declared.run_error.RunError.{RunError}
use Rattle.cbsrun_loads.specs.Loads.{LoadFile}
use Rattle.cbsrun_tasks.specs.Spelling.{file}
use Rattle.cbsrun_tasks.specs.TaskFiles.{File}
use Rattle.cbsrun_runs.specs.Loads.{run_of}
use Rattle.cbsrun_runs.specs.Runs.{Shown, IsPictureOf}
use Rattle.cbsrun_runs.specs.Tasks.{clock_of_tasks, run_of_tasks}
use Rattle.cbsrun_options.specs.declared.actions.Changes.{Changes}
use Rattle.cbsrun_options.specs.declared.actions.Drawing.{Drawing}
use Rattle.cbsrun_options.specs.declared.run_drawing.RunDrawing.{RunDrawing}
use Rattle.cbsrun_commands.specs.Commands.{Command, Does, IsClosedPipe, Tells}
use Rattle.cbsrun_commands.specs.FaultLines.{run_line, nothing_shown_line, Explains, StopsPrinting}
use Rattle.cbsrun_commands.specs.Outputs.{IsDrawn, changed_load}
use Rattle.cbsrun_commands.specs.declared.drawn.Cut.{Cut}
use Rattle.cbsrun_commands.specs.declared.drawn.Drawn.{Drawn}
use Rattle.cbsrun_commands.specs.declared.drawn.Drawn.TheVariants.{NoServer, Printed}
use Rattle.cbsrun_commands.specs.declared.ending.Stopped.{Stopped}
use Rattle.cbsrun_commands.specs.declared.ending.Stopped.TheVariants.{Unread, Ended, Run}

-- The ticks of a run, which ends at this tick, that a drawing leaves out since it can show no more of them. If the command
-- line says where the ticks end, these are none
abbrev pub cut_of : RunDrawing → ℕ → Option Cut
cut_of d end = if d.bounded || leb end d.ticks.to then None else Some (record { from = d.ticks.to; to = end })

-- the line of ticks that are left out
unfoldable pub cut_line : Cut → List ℕ
cut_line c = codes "note: ticks " ++ (decimal c.from ++ (codes " to " ++ (decimal c.to ++ codes " are not shown: --from and --to choose others\n")))

-- the picture is that of a window of the run, and draws the servers with these names
abbrev pub IsPictureOfThose : List (List ℕ) → List ℕ → Shown → Window → Picture → Type 0
IsPictureOfThose servers name run w p = (all : Picture) × IsPictureOf name run w all × IsChosen servers all p

-- the text is a drawing of the servers with these names, in a window of the run
abbrev pub IsDrawingOfThose : Drawing → List (List ℕ) → List ℕ → Shown → Window → List ℕ → Type 0
IsDrawingOfThose drawing servers name run w text = (p : Picture) × IsPictureOfThose servers name run w p × IsDrawn drawing p text

-- The text is the drawing of a run, which ends at this tick, that is asked for: of the servers with these names, or of all if
-- there is no name, and of the ticks that are asked for, as far as the run has them
abbrev pub IsDrawingAsked : RunDrawing → List (List ℕ) → List ℕ → Shown → ℕ → List ℕ → Type 0
IsDrawingAsked d servers name run end text = (w : Window) × AnswersShown d.ticks end (Ok w) × IsDrawingOfThose d.drawing servers name run w text

-- the first line of what is told of a name that no server has
unfoldable pub no_server_line : List ℕ → List ℕ
no_server_line name = codes "error: no server is called '" ++ (name ++ codes "'\n")

-- a name is among these
abbrev pub is_among : List (List ℕ) → List ℕ → Bool
is_among names name = list_any (λ one. bytes_eq one name) names

-- each of the names that are wanted is among the names
abbrev pub are_among : List (List ℕ) → List (List ℕ) → Bool
are_among names wanted = list_all (is_among names) wanted

-- a name is wanted, and is not among the names
pub record IsMissing (names wanted : List (List ℕ)) (name : List ℕ) : Type 0 where
  pub place : ℕ
  pub is_wanted : slice_get wanted place ≡ Some name
  pub absent : is_among names name ≡ false

-- a text begins with another one
abbrev pub BeginsWith : List ℕ → List ℕ → Type 0
BeginsWith front text = (rest : List ℕ) × (text ≡ front ++ rest)

-- a text tells of one of the names that are wanted that no server of the run has it
abbrev pub TellsNoServer : List (List ℕ) → Shown → List ℕ → Type 0
TellsNoServer wanted run text = (name : List ℕ) × IsMissing run.names wanted name × BeginsWith (no_server_line name) text

-- what there is to tell of the names that are wanted: nothing if a server of the run has each of them
abbrev pub AnswersNames : List (List ℕ) → Shown → Option (List ℕ) → Type 0
AnswersNames wanted run None = are_among run.names wanted ≡ true
AnswersNames wanted run (Some text) = TellsNoServer wanted run text

-- a command that draws the run of each file: what it reads, the run of a file, the tick at which it ends, what is asked for,
-- the names of the servers to draw, and the name of the file
pub record Drawer (F : Type 0) : Type 1 where
  pub read : List ℕ → Result F FileFault
  pub run : F → Shown
  pub ends : F → ℕ
  pub asked : RunDrawing
  pub servers : List (List ℕ)
  pub name : List ℕ

-- the texts that it may print of a file, whose run has each server that is named
abbrev pub draws : {F : Type 0} → Drawer F → F → List ℕ → Type 0
draws d f text = (are_among (d.run f).names d.servers ≡ true) × IsDrawingAsked d.asked d.servers d.name (d.run f) (d.ends f) text

-- it as a command. It finds nothing to show if the run ends at or before the first tick that is asked for
abbrev pub command_of : {F : Type 0} → Drawer F → Command F
command_of d =
    record { read = d.read; prints = draws d; short = λ f. IsUntouched; nothing = λ f e. AnswersShown d.asked.ticks (d.ends f) (Err e) }

-- the commands that draw a load and a task file
abbrev pub load_drawer : Changes → RunDrawing → List (List ℕ) → List ℕ → Drawer LoadFile
load_drawer changes asked servers name =
    record { read = changed_load changes; run = run_of; ends = λ f. f.until; asked = asked; servers = servers; name = name }

abbrev pub task_drawer : RunDrawing → List (List ℕ) → List ℕ → Drawer File
task_drawer asked servers name =
    record { read = file; run = run_of_tasks; ends = clock_of_tasks; asked = asked; servers = servers; name = name }

-- what a command that draws left on the output, by its result
abbrev pub Draws : {F : Type 0} → Drawer F → List ℕ → Result Drawn Stopped → Writer → Writer → Type 0
Draws {F} d bytes (Ok (Printed cut)) old new =
    (f : F) × (text : List ℕ) × (d.read bytes ≡ Ok f) × draws d f text × (cut ≡ cut_of d.asked (d.ends f)) × Writes old new text
Draws {F} d bytes (Ok (NoServer text)) old new =
    (f : F) × (d.read bytes ≡ Ok f) × TellsNoServer d.servers (d.run f) (string_bytes text) × IsUntouched old new
Draws d bytes (Err stopped) old new = Does {A = Unit {0}} (command_of d) bytes (Err stopped) old new

-- the line of ticks that are left out was written, if there are any
abbrev pub IsNoted : Option Cut → Writer → Writer → Type 0
IsNoted None old new = IsUntouched old new
IsNoted (Some cut) old new = TriesToWrite old new (cut_line cut)

-- what the drawing of a run that ends at this tick left on the output, by its result
abbrev pub PrintsDrawing : RunDrawing → List (List ℕ) → List ℕ → Shown → ℕ → Result Drawn Stopped → Writer → Writer → Type 0
PrintsDrawing asked servers name run end (Ok (Printed cut)) old new =
    (text : List ℕ) × (are_among run.names servers ≡ true) × IsDrawingAsked asked servers name run end text × (cut ≡ cut_of asked end) × Writes old new text
PrintsDrawing asked servers name run end (Ok (NoServer text)) old new = TellsNoServer servers run (string_bytes text) × IsUntouched old new
PrintsDrawing asked servers name run end (Err (Unread fault)) old new = ⊥
PrintsDrawing asked servers name run end (Err (Ended e)) old new = AnswersShown asked.ticks end (Err e) × IsUntouched old new
PrintsDrawing asked servers name run end (Err (Run error)) old new =
    StopsPrinting (λ text. (are_among run.names servers ≡ true) × IsDrawingAsked asked servers name run end text) IsUntouched error old new

-- how a command that draws was told to end, with this status
abbrev pub TellsDrawn : List ℕ → List ℕ → Bool → Result Drawn Stopped → Writer → Writer → ℕ → Type 0
TellsDrawn name bytes closed (Ok (Printed cut)) old new status = (status ≡ 0) × IsNoted cut old new
TellsDrawn name bytes closed (Ok (NoServer text)) old new status = (status ≡ 2) × TriesToWrite old new (string_bytes text)
TellsDrawn name bytes closed (Err stopped) old new status = Tells name bytes closed (Err stopped) old new status

-- A command that draws ended with this status, and left out and err so. At 0 the drawing is printed, whole, or up to a write
-- that found a closed pipe; ticks that it leaves out since it can show no more are told. At 2 there is nothing to show, or a
-- server is named that the run does not have. At 3 the bytes spell no such file, or memory was refused. At 4 the run ended
-- early
pub data EndsDrawing {F : Type 0} (d : Drawer F) (bytes : List ℕ) (closed : Bool) (out out' err err' : Writer) : ℕ → Type 0 where
  drawn : (f : F) (text : List ℕ) → d.read bytes ≡ Ok f → draws d f text → Writes out out' text → IsNoted (cut_of d.asked (d.ends f)) err err'
      → EndsDrawing d bytes closed out out' err err' 0
  closed_pipe : (f : F) (text : List ℕ) → d.read bytes ≡ Ok f → draws d f text → FailsToWrite out out' text → closed ≡ true
      → IsUntouched err err' → EndsDrawing d bytes closed out out' err err' 0
  nothing_shown : (f : F) (e : NothingShown) → d.read bytes ≡ Ok f → AnswersShown d.asked.ticks (d.ends f) (Err e) → IsUntouched out out'
      → TriesToWrite err err' (nothing_shown_line e.from e.end) → EndsDrawing d bytes closed out out' err err' 2
  no_server : (f : F) (text : List ℕ) → d.read bytes ≡ Ok f → TellsNoServer d.servers (d.run f) text → IsUntouched out out'
      → TriesToWrite err err' text → EndsDrawing d bytes closed out out' err err' 2
  refused : (fault : FileFault) → (fault ≡ no_memory) ⊎ (d.read bytes ≡ Err fault) → IsUntouched out out' → Explains d.name bytes fault err err'
      → EndsDrawing d bytes closed out out' err err' 3
  stopped : (f : F) (error : RunError) → d.read bytes ≡ Ok f → StopsPrinting (draws d f) IsUntouched error out out'
      → ¬ IsClosedPipe error closed → TriesToWrite err err' (run_line error) → EndsDrawing d bytes closed out out' err err' 4
