-- The commands on records, and those that print records: what each reads, and what it prints.
use Rattle.std.specs.Prelude.{◌≡◌, [], ℕ, List, codes, length, map, Option, Some, None, Result, Ok, Err}
use Rattle.cbsrun_check_text.specs.Checks.{numbered}
use Rattle.cbsrun_options.specs.declared.actions.Changes.{Changes}
use Rattle.cbsrun_options.specs.declared.actions.Form.{Form}
use Rattle.cbsrun_options.specs.declared.run_drawing.RunDrawing.{RunDrawing}
use Rattle.cbsrun_lines.specs.Lines.{lines_of}
use Rattle.cbsrun_lines.specs.Traces.{WritesSomeLines}
use Rattle.cbsrun_records.specs.Records.{RecordFile}
use Rattle.cbsrun_records.specs.Spelling.{record_of}
use Rattle.cbsrun_runs.specs.Loads.{run_of, seen_in}
use Rattle.cbsrun_runs.specs.Records.{clock_of_record, counted_seen, run_of_record, seen_in_record}
use Rattle.cbsrun_runs.specs.Runs.{Shown}
use Rattle.cbsrun_runs.specs.Tasks.{run_of_tasks}
use Rattle.cbsrun_lines.specs.Writers.{Writer, IsUntouched}
use Rattle.cbsrun_lines.specs.declared.run_error.RunError.{RunError}
use Rattle.cbsrun_loads.specs.Loads.{LoadFile}
use Rattle.cbsrun_run_records.specs.Recorded.{IsRecorded}
use Rattle.cbsrun_tasks.specs.Spelling.{file}
use Rattle.cbsrun_tasks.specs.TaskFiles.{File}
use Rattle.cbsrun_commands.specs.Commands.{Command, printing_command}
use Rattle.cbsrun_commands.specs.Drawings.{Drawer}
use Rattle.cbsrun_commands.specs.FaultLines.{Prints}
use Rattle.cbsrun_commands.specs.Outputs.{changed_load, IsRunText}

-- the text is the lines of the record's steps
abbrev pub AreRecordLines : RecordFile → List ℕ → Type 0
AreRecordLines f text = text ≡ lines_of (seen_in_record f)

-- the command that writes the lines of a record while its steps are made
abbrev pub record_lines : Command RecordFile
record_lines = record { read = record_of; prints = AreRecordLines; short = λ f. WritesSomeLines (seen_in_record f); nothing = λ f e. ⊥ }

-- the text is that of a report of the record in this form, and names the file so
abbrev pub IsRecordReportText : Form → List ℕ → RecordFile → List ℕ → Type 0
IsRecordReportText form name f text = IsRunText form name (run_of_record f) (λ r loads. loads ≡ []) text

-- the command that prints a report of a record
abbrev pub record_report : Form → List ℕ → Command RecordFile
record_report form name = printing_command record_of (IsRecordReportText form name)

-- the command that draws a record
abbrev pub record_drawer : RunDrawing → List (List ℕ) → List ℕ → Drawer RecordFile
record_drawer asked servers name =
    record { read = record_of; run = run_of_record; ends = clock_of_record; asked = asked; servers = servers; name = name }

-- what a command left that prints the record of a run with these names, by its result: the whole text, or nothing if there
-- is no record
abbrev pub PrintsRecord : {A : Type 0} → List (List ℕ) → Shown → Result (Option A) RunError → Writer → Writer → Type 0
PrintsRecord names run (Ok None) old new = Prints {A = Unit {0}} (IsRecorded names run) (Ok (tt {0})) old new
PrintsRecord names run (Ok (Some why)) old new = IsUntouched old new
PrintsRecord names run (Err error) old new = Prints {A = Unit {0}} (IsRecorded names run) (Err error) old new

-- the text is a record of the load's run. So it shows the simulation again, but for what is not known of jobs
abbrev pub IsLoadRecord : LoadFile → List ℕ → Type 0
IsLoadRecord f text = (told : IsRecorded f.names (run_of f) text) × (seen_in_record told.r ≡ map counted_seen (seen_in f))

-- the commands that print a record of a load's run, of a task file's, whose server S is called `server-S`, and of a record's
abbrev pub load_record : Changes → Command LoadFile
load_record changes = printing_command (changed_load changes) IsLoadRecord

abbrev pub task_record : Command File
task_record = printing_command file (λ f. IsRecorded (numbered (codes "server-") (length f.plan.rates)) (run_of_tasks f))

abbrev pub record_again : Command RecordFile
record_again = printing_command record_of (λ f. IsRecorded f.names (run_of_record f))

-- nothing is said of a file whose run has no record that the program could read
abbrev pub IsNotRecorded : {F : Type 0} → F → Type 0
IsNotRecorded f = Unit {0}
