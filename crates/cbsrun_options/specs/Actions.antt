-- The names of actions and forms.
use Rattle.std.specs.Prelude.{ℕ, List, codes}
use Rattle.cbsrun_options.specs.declared.actions.Action.{Action}
use Rattle.cbsrun_options.specs.declared.actions.Action.TheVariants as action
use Rattle.cbsrun_options.specs.declared.actions.Drawing.{Drawing}
use Rattle.cbsrun_options.specs.declared.actions.Drawing.TheVariants.{Svg, Text, Trace}
use Rattle.cbsrun_options.specs.declared.actions.Form.{Form}
use Rattle.cbsrun_options.specs.declared.actions.Form.TheVariants.{Report, Json}
use Rattle.cbsrun_options.specs.declared.actions.Listing.{Listing}
use Rattle.cbsrun_options.specs.declared.actions.Listing.TheVariants.{Lines, Csv, Record, Tape}
use Rattle.cbsrun_options.specs.declared.actions.SweepForm.{SweepForm}
use Rattle.cbsrun_options.specs.declared.actions.SweepForm.TheVariants as sweep
use Rattle.cbsrun_options.specs.declared.actions.Verb.{Verb}
use Rattle.cbsrun_options.specs.declared.actions.Verb.TheVariants.{Replay, Serve}

-- the word of each verb
abbrev pub name_of : Verb → List ℕ
name_of Replay = codes "replay"
name_of Serve = codes "serve"

-- the word of each action
abbrev pub action_name : Action → List ℕ
action_name (action.Check form strict) = codes "check"
action_name (action.Size all) = codes "size"
action_name (action.ReportLoad report) = codes "simulate"
action_name (action.ListLoad listing changes) = codes "simulate"
action_name (action.SweepLoad sweep) = codes "simulate"
action_name (action.DrawLoad drawn changes) = codes "simulate"
action_name (action.ReportTasks form) = codes "replay"
action_name (action.DrawTasks drawn) = codes "replay"
action_name (action.RecordTasks taped) = codes "replay"
action_name (action.Run verb) = name_of verb

-- the word of each form of a report
abbrev pub form_name : Form → List ℕ
form_name Report = codes "report"
form_name Json = codes "json"

-- the word of each listing
abbrev pub listing_name : Listing → List ℕ
listing_name Lines = codes "lines"
listing_name Csv = codes "csv"
listing_name Record = codes "record"
listing_name Tape = codes "tape"

-- the word of each form of many runs
abbrev pub sweep_form_name : SweepForm → List ℕ
sweep_form_name sweep.Report = codes "report"
sweep_form_name sweep.Json = codes "json"
sweep_form_name sweep.Csv = codes "csv"

-- the word of each drawing
abbrev pub drawing_name : Drawing → List ℕ
drawing_name Svg = codes "svg"
drawing_name Text = codes "text"
drawing_name Trace = codes "trace"
