-- What each command reads, and what it prints.
use Rattle.std.specs.Prelude.{ℕ, Bool, true, false, if◌then◌else◌, List, [], ◌++◌, codes, length, get_or, unwrap_or, Option, None, Result, ◌≡◌, Ok, Err}
use Rattle.std.specs.List.{list_all}
use Rattle.cbsrun_options.specs.declared.actions.Changes.{Changes}
use Rattle.cbs_guarantee.specs.declared.source.NotPromised.{NotPromised}
use Rattle.cbsrun_report_json.specs.Json.{all_in_time}
use Rattle.cbsrun_simulate.specs.declared.terms.SourceTerms.{SourceTerms}
use Rattle.cbsrun_sizing.specs.Budgets.{is_within}
use Rattle.cbsrun_sizing.specs.ServerLoads.{AreServerLoads, no_load}
use Rattle.cbsrun_sizing.specs.declared.server_load.ServerLoad.{ServerLoad}
use Rattle.cbsrun_check_json.specs.Json.{IsCheckJson, IsPlanJson}
use Rattle.cbsrun_check_text.specs.Checks.{IsLoadText, IsPlanText, numbered}
use Rattle.cbsrun_csv.specs.Csv.{IsCsv}
use Rattle.cbsrun_tasks.specs.Spelling.{file}
use Rattle.cbsrun_loads.specs.Spelling.{is_load, load, load_in}
use Rattle.cbsrun_roundings.specs.Tables.{load_roundings}
use Rattle.cbsrun_toml_tables.specs.Documents.{at, document}
use Rattle.cbsrun_toml_tables.specs.declared.fault.Place.TheVariants.{Top}
use Rattle.toml.specs.Data.{Members}
use Rattle.cbsrun_commands.specs.declared.check.AnyFile.{AnyFile}
use Rattle.cbsrun_commands.specs.declared.check.AnyFile.TheVariants.{Load, Tasks, Record}
use Rattle.cbsrun_toml_tables.specs.Fields.{◌>>=◌, seen}
use Rattle.cbsrun_toml_tables.specs.declared.fault.FileFault.{FileFault}
use Rattle.cbsrun_loads.specs.Loads.{LoadFile, with_seed, with_until}
use Rattle.cbsrun_loads.specs.Sketches.{SketchFile, sketch}
use Rattle.cbsrun_sized.specs.Sized.{IsSized, IsWhyNot}
use Rattle.cbsrun_sized.specs.declared.not_sized.NotSized.{NotSized}
use Rattle.cbsrun_lines.specs.Traces.{AreLoadLines, WritesSomeLines}
use Rattle.cbsrun_runs.specs.Loads.{seen_in, run_of, IsKept}
use Rattle.cbsrun_commands.specs.Commands.{Command, printing_command}
use Rattle.cbsrun_records.specs.Kinds.{begins_record}
use Rattle.cbsrun_records.specs.Spelling.{record_of}
use Rattle.cbsrun_tasks.specs.TaskFiles.{File}
use Rattle.cbsrun_report_json.specs.Json.{report_json}
use Rattle.cbsrun_runs.specs.Runs.{Shown, IsReportOf}
use Rattle.cbsrun_runs.specs.Tasks.{run_of_tasks}
use Rattle.cbsrun_report_text.specs.Texts.{report_text}
use Rattle.cbsrun_report_text.specs.declared.report.RunReport.{RunReport}
use Rattle.cbsrun_options.specs.declared.actions.Form.{Form}
use Rattle.cbsrun_options.specs.declared.actions.Form.TheVariants.{Report, Json}
use Rattle.cbsrun_chart.specs.declared.picture.Picture.{Picture}
use Rattle.cbsrun_svg.specs.Pictures.{svg_text}
use Rattle.cbsrun_timeline.specs.Timelines.{timeline_text}
use Rattle.cbsrun_perfetto.specs.Traces.{IsTrace}
use Rattle.cbsrun_options.specs.declared.actions.Drawing.{Drawing}
use Rattle.cbsrun_options.specs.declared.actions.Drawing.TheVariants.{Svg, Text, Trace}

-- the load of a top table, and what is told of its times that are no whole number of ticks
abbrev pub checked_load : Members → Result AnyFile FileFault
checked_load table = seen (λ f. Load f (load_roundings f.tick table)) (load_in table)

-- the load or the task file that the bytes spell: a load if the top table has the key `load`
unfoldable pub load_or_tasks : List ℕ → Result AnyFile FileFault
load_or_tasks bytes = do
  is ← is_load bytes
  if is then at Top (document bytes) >>= checked_load else seen Tasks (file bytes)

-- the file that the bytes spell: a record if they begin as one does
unfoldable pub any_file : List ℕ → Result AnyFile FileFault
any_file bytes = if begins_record bytes then seen Record (record_of bytes) else load_or_tasks bytes

-- the text is what `check` prints about a load, with what is told of its times that are no whole number of ticks
abbrev pub IsLoadCheck : LoadFile → List ℕ → List ℕ → Type 0
IsLoadCheck f rounded text = (told : List ℕ) × IsLoadText f told × (text ≡ told ++ rounded)

-- the text is what `check` prints about the file. The servers of a task file are called by their numbers
abbrev pub IsCheckText : AnyFile → List ℕ → Type 0
IsCheckText (Load f rounded) text = IsLoadCheck f rounded text
IsCheckText (Tasks f) text = IsPlanText None (numbered (codes "server ") (length f.plan.rates)) f.modes f.plan text
IsCheckText (Record f) text = IsPlanText f.tick f.names f.modes f.plan text

-- the text is what `check` prints about the file in this form, and names the file so
abbrev pub IsCheckIn : Form → List ℕ → AnyFile → List ℕ → Type 0
IsCheckIn Report name f text = IsCheckText f text
IsCheckIn Json name (Load f rounded) text = IsCheckJson name f text
IsCheckIn Json name (Tasks f) text = IsPlanJson name (numbered (codes "server ") (length f.plan.rates)) f.modes f.plan text
IsCheckIn Json name (Record f) text = IsPlanJson name f.names f.modes f.plan text

-- the command that prints what it finds in a file of any kind
abbrev pub check_command : Form → List ℕ → Command AnyFile
check_command form name = printing_command any_file (IsCheckIn form name)

-- whether so many ticks are promised that they are at most the wanted ones
abbrev pub is_promised : Result ℕ NotPromised → Option ℕ → Bool
is_promised (Err why) within = false
is_promised (Ok time) within = is_within time within

-- whether the jobs of each source are promised to be in time, by the figures of the servers
abbrev pub all_promised : List ServerLoad → List SourceTerms → Bool
all_promised loads sources = list_all (λ t. is_promised (get_or loads t.server no_load).promised t.within) sources

-- whether the jobs of each source of the load are promised to be in time
abbrev pub AreSourcesPromised : LoadFile → Bool → Type 0
AreSourcesPromised f answer =
    (loads : List ServerLoad) × AreServerLoads f (length f.plan.rates) loads × (answer ≡ all_promised loads f.sources)

-- the same of a file of any kind. Only a load has sources
abbrev pub ArePromised : AnyFile → Bool → Type 0
ArePromised (Load f rounded) answer = AreSourcesPromised f answer
ArePromised (Tasks f) answer = answer ≡ true
ArePromised (Record f) answer = answer ≡ true

-- the load with what takes the place of its own seed and its own end
abbrev pub changed : Changes → LoadFile → LoadFile
changed changes f = with_until (unwrap_or changes.until f.until) (with_seed (unwrap_or changes.seed f.seed) f)

-- the load that the bytes spell, so changed
abbrev pub changed_load : Changes → List ℕ → Result LoadFile FileFault
changed_load changes bytes = seen (changed changes) (load bytes)

-- the command that prints a sketch with a reservation for each server, as a load file
abbrev pub size_command : Bool → Command SketchFile
size_command all = printing_command sketch (λ k. IsSized k all)

-- there is a reason why the sketch is not sized
abbrev pub IsNotSized : Bool → SketchFile → Type 0
IsNotSized all k = (why : NotSized) × IsWhyNot k all why

-- the command that writes the lines of a load while they are made
abbrev pub lines_command : Changes → Command LoadFile
lines_command changes = record { read = changed_load changes; prints = AreLoadLines; short = λ f. WritesSomeLines (seen_in f); nothing = λ f e. ⊥ }

-- the text is the CSV of the jobs of the load. What is told of each load holds of this one
abbrev pub IsJobsText : LoadFile → List ℕ → Type 0
IsJobsText f text = IsCsv f.names f.until (seen_in f) text × IsKept f

-- the command that prints the jobs of a load
abbrev pub jobs_command : Changes → Command LoadFile
jobs_command changes = printing_command (changed_load changes) IsJobsText

-- a report in a form, with what `check` tells of the servers, which only a text tells
abbrev pub text_in : Form → RunReport → List ServerLoad → List ℕ
text_in Report r loads = report_text r loads
text_in Json r loads = report_json r

-- the text is that of a report of the run in this form, and names the file so. What `check` tells of the servers has this
-- property
abbrev pub IsRunText : Form → List ℕ → Shown → (RunReport → List ServerLoad → Type 0) → List ℕ → Type 0
IsRunText form name run are text =
    (r : RunReport) × (loads : List ServerLoad) × IsReportOf name run r × are r loads × (text ≡ text_in form r loads)

-- what a report of a load tells of its servers besides the run: what `check` tells of them, if a text tells it, and if one
-- is not in time
abbrev pub AreTold : Form → Bool → LoadFile → List ServerLoad → Type 0
AreTold Report false f loads = AreServerLoads f (length f.plan.rates) loads
AreTold Report true f loads = loads ≡ []
AreTold Json in_time f loads = loads ≡ []

-- the text is that of a report of the load in this form, and names the file so. What is told of each load holds of this
-- one
abbrev pub IsReportText : Form → List ℕ → LoadFile → List ℕ → Type 0
IsReportText form name f text =
    IsRunText form name (run_of f) (λ r loads. AreTold form (all_in_time r.servers.items) f loads) text × IsKept f

-- the text is that of a report of the task file in this form, and names the file so. Nothing is told besides its run
abbrev pub IsTaskReportText : Form → List ℕ → File → List ℕ → Type 0
IsTaskReportText form name f text = IsRunText form name (run_of_tasks f) (λ r loads. loads ≡ []) text

-- whether each job of the run was in time, by a report of it
abbrev pub IsRunInTime : List ℕ → Shown → Bool → Type 0
IsRunInTime name run answer = (r : RunReport) × IsReportOf name run r × (answer ≡ all_in_time r.servers.items)

-- whether each job of the load's run was in time
abbrev pub IsInTime : List ℕ → LoadFile → Bool → Type 0
IsInTime name f answer = IsRunInTime name (run_of f) answer

-- the command that prints a report of a load, and the one that prints a report of a task file
abbrev pub load_report : Changes → Form → List ℕ → Command LoadFile
load_report changes form name = printing_command (changed_load changes) (IsReportText form name)

abbrev pub task_report : Form → List ℕ → Command File
task_report form name = printing_command file (IsTaskReportText form name)

-- the text is a picture in this drawing
abbrev pub IsDrawn : Drawing → Picture → List ℕ → Type 0
IsDrawn Svg p text = text ≡ svg_text p
IsDrawn Text p text = text ≡ timeline_text p
IsDrawn Trace p text = IsTrace p text
