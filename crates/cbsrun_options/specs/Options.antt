-- The options of a command, and what they ask for.
use Rattle.std.specs.Prelude.{◌≡◌, ⊤, ℕ, Bool, false, true, ◌==◌, ◌+◌, ◌<◌, ◌≤◌, ◌^◌, eqb, ltb, length, min, bytes_eq, codes, if◌then◌else◌, MatchOption, option_map}
use Rattle.std.specs.Prelude.{List, [], ◌∷◌, ◌||◌, ◌&&◌, is_some, option_and_then, Option, Some, None, Result}
use Rattle.std.specs.List.{position_or_len, before_first, after_first}
use Rattle.std.specs.Borrow.{Bor}
use Rattle.std.specs.Str.Parse.{IsNumeral, digits_value, without_leading_plus}
use Rattle.cbsrun_window.specs.Windows.{AnswersLong, AnswersWindow}
use Rattle.cbsrun_window.specs.declared.window.Window.{Window}
use Rattle.cbsrun_window.specs.declared.window.WindowError.{WindowError}
use Rattle.cbsrun_options.specs.Fits.{Fits, most_ticks}
use Rattle.cbsrun_options.specs.Actions.{action_name, drawing_name, form_name, listing_name, sweep_form_name}
use Rattle.cbsrun_options.specs.declared.actions.Action.{Action}
use Rattle.cbsrun_options.specs.declared.actions.Action.TheVariants as action
use Rattle.cbsrun_options.specs.declared.actions.Changes.{Changes}
use Rattle.cbsrun_options.specs.declared.actions.Form.TheVariants.{Report}
use Rattle.cbsrun_options.specs.declared.actions.Drawing.{Drawing}
use Rattle.cbsrun_options.specs.declared.actions.Drawing.TheVariants.{Trace}
use Rattle.cbsrun_options.specs.declared.run_drawing.RunDrawing.{RunDrawing}
use Rattle.cbsrun_options.specs.declared.actions.Seeds.{Seeds}
use Rattle.cbsrun_options.specs.declared.actions.SweepForm.TheVariants.{Report as ManyReport}
use Rattle.cbsrun_options.specs.declared.actions.Verb.TheVariants.{Replay, Serve}
use Rattle.cbsrun_options.specs.declared.options.Options.{Options}

-- a text, by its bytes
abbrev pub Text : Type 0
Text = List ℕ

-- the value of which this is true, or none if it is true of no value
abbrev pub Finds : {A : Type 0} → Option A → (A → Type 0) → Type 0
Finds {A} found Is = MatchOption found ((x : A) → ¬ (Is x)) Is

-- the texts of the options that are given: the form of the output, the first tick to show, and the tick after the last
-- one; the first of the names of the servers to draw; the seed, and the tick at which a simulation ends; the seeds of many runs; whether the status is to tell the answer; whether each server
-- is to get a reservation
pub record Said : Type 0 where
  pub form : Option Text
  pub from : Option Text
  pub to : Option Text
  pub server : Option Text
  pub seed : Option Text
  pub until : Option Text
  pub seeds : Option Text
  pub strict : Option Text
  pub all : Option Text

-- the text of an option, if it is given
abbrev pub text_of : Option (Bor Text) → Option Text
text_of o = option_map (λ s. s.now) o

-- the texts of the options, as the code holds them
abbrev pub said : Options → Said
said o = record {
  form = text_of o.form;
  from = text_of o.from;
  to = text_of o.to;
  server = text_of o.server;
  seed = text_of o.seed;
  until = text_of o.until;
  seeds = text_of o.seeds;
  strict = text_of o.strict;
  all = text_of o.all;
}

-- an option without a value is given: `clap` has the text `true` for it, and `false` if it is not given
abbrev pub is_given : Option Text → Bool
is_given None = false
is_given (Some text) = bytes_eq text (codes "true")

-- the form of the output is that of a report, as text or as JSON. Without a form, it is the text
abbrev pub is_report : Option Text → Bool
is_report None = true
is_report (Some name) = bytes_eq name (codes "report") || bytes_eq name (codes "json")

-- there is a file, and there are several only if the output is a report
abbrev pub are_enough : Said → ℕ → Bool
are_enough s files = eqb files 1 || ltb 1 files && is_report s.form

-- the number that the digits of a text spell
abbrev pub number_in : Text → ℕ
number_in text = digits_value 10 (without_leading_plus text)

-- the text is a whole number below 2^64, namely n
abbrev pub Spells : Text → ℕ → Type 0
Spells text n = IsNumeral 10 (without_leading_plus text) × (number_in text < 2 ^ 64) × (n ≡ number_in text)

-- the tick that an option gives, or another tick if the option is not there
abbrev pub IsTick : Option Text → ℕ → ℕ → Type 0
IsTick None otherwise n = n ≡ otherwise
IsTick (Some text) otherwise n = Spells text n

-- where the ticks of a drawing end, by the first tick, if no option says so: as late as the drawing can show, within 2^64
abbrev pub last_end : Drawing → ℕ → ℕ
last_end drawing first = min (first + most_ticks drawing) 18446744073709551615

-- the window of the ticks from one up to another, if the drawing can show them, or else why it cannot
abbrev pub AnswersFit : Drawing → ℕ → ℕ → Result Window WindowError → Type 0
AnswersFit Trace first end r = AnswersLong first end r
AnswersFit drawing first end r = AnswersWindow first end r

-- The ticks that are asked for, which the drawing can show. If an option is not there, the first tick is 0, or the ticks
-- end as late as possible.
abbrev pub AsksTicks : Drawing → Option Text → Option Text → Window → Type 0
AsksTicks drawing from to w = IsTick from 0 w.from × IsTick to (last_end drawing w.from) w.to × Fits drawing w

-- the drawing of a run that is asked for: its form, its ticks, and whether the option for their end is there
abbrev pub AsksDrawing : Option Text → Option Text → Option Text → RunDrawing → Type 0
AsksDrawing form from to d = (form ≡ Some (drawing_name d.drawing)) × AsksTicks d.drawing from to d.ticks × (d.bounded ≡ is_some to)

-- an option is given that goes with drawings alone
abbrev pub is_for_drawings : Said → Bool
is_for_drawings s = is_some s.from || is_some s.to || is_some s.server

-- the number from `least` to `greatest` that an option gives, or none if the option is not there
abbrev pub IsNumber : ℕ → ℕ → Option Text → Option ℕ → Type 0
IsNumber least greatest None found = found ≡ None
IsNumber least greatest (Some text) None = ⊥
IsNumber least greatest (Some text) (Some n) = Spells text n × (least ≤ n) × (n ≤ greatest)

-- what is asked for in the place of what a load says: its seed, and the tick at which its simulation ends
abbrev pub AsksChanges : Option Text → Option Text → Changes → Type 0
AsksChanges seed until c = IsNumber 0 9223372036854775807 seed c.seed × IsNumber 1 1000000000000 until c.until

-- what stands before the first dot of a text, and what stands after it, if there is one
abbrev pub around_dot : Text → Option (Text × Text)
around_dot text =
    if ltb (position_or_len (λ b. eqb b 46) text) (length text)
    then Some (before_first (λ b. eqb b 46) text, after_first (λ b. eqb b 46) text)
    else None

-- what stands after the dot that a text begins with
abbrev pub after_dot : Text → Option Text
after_dot [] = None
after_dot (c ∷ rest) = if c == 46 then Some rest else None

-- the two texts of A..B
abbrev pub seeds_in : Text → Option (Text × Text)
seeds_in text = option_and_then (λ two. option_map (λ last. (two.0, last)) (after_dot two.1)) (around_dot text)

-- the seeds from the first text to the last one, at most 10^6
abbrev pub AreSeeds : Text → Text → Seeds → Type 0
AreSeeds first last s =
    Spells first s.first × Spells last s.last × (s.first ≤ s.last) × (s.last ≤ 9223372036854775807) × (s.last < s.first + 1000000)

-- the seeds that a text asks for
abbrev pub AsksSeeds : Text → Seeds → Type 0
AsksSeeds text s = MatchOption (seeds_in text) ⊥ (λ two. AreSeeds two.0 two.1 s)

-- Which form without ticks an action has. For check and simulate that is a report, as text if no form is named; for
-- simulate also a listing by its name. For replay that is the lines, by their name or if no form is named, or a report or a
-- record by its name.
abbrev pub AsksPlain : Option Text → Action → Type 0
AsksPlain name (action.Check form strict) = MatchOption name (form ≡ Report) (λ n. n ≡ form_name form)
AsksPlain name (action.ReportLoad report) = MatchOption name (report.form ≡ Report) (λ n. n ≡ form_name report.form)
AsksPlain name (action.ListLoad listing changes) = name ≡ Some (listing_name listing)
AsksPlain name (action.SweepLoad sweep) = MatchOption name (sweep.form ≡ ManyReport) (λ n. n ≡ sweep_form_name sweep.form)
AsksPlain name (action.ReportTasks form) = MatchOption name ⊥ (λ n. n ≡ form_name form)
AsksPlain name (action.RecordTasks taped) = name ≡ Some (if taped then codes "tape" else codes "record")
AsksPlain name (action.Run Replay) = MatchOption name ⊤ (λ n. n ≡ codes "lines")
AsksPlain name _ = ⊥

-- which changes of a load an action has, and whether its status tells the answer: only check and a report of a load may.
-- Whether each server is to get a reservation
abbrev pub AsksRest : Said → Action → Type 0
AsksRest s (action.Check form strict) = strict ≡ is_given s.strict
AsksRest s (action.Size all) = all ≡ is_given s.all
AsksRest s (action.ReportLoad report) = AsksChanges s.seed s.until report.changes × (report.strict ≡ is_given s.strict) × (s.seeds ≡ None)
AsksRest s (action.ListLoad listing changes) = AsksChanges s.seed s.until changes × (is_given s.strict ≡ false) × (s.seeds ≡ None)
AsksRest s (action.SweepLoad sweep) = MatchOption s.seeds ⊥ (λ text. AsksSeeds text sweep.seeds) × (s.seed ≡ None)
    × AsksChanges s.seed s.until sweep.changes × (sweep.strict ≡ is_given s.strict)
AsksRest s (action.DrawLoad drawn changes) = AsksChanges s.seed s.until changes × (is_given s.strict ≡ false) × (s.seeds ≡ None)
AsksRest s _ = ⊤

-- The form that the options ask for. A drawing has ticks, and perhaps names of servers, and the other forms have none. Size
-- and serve have one form
abbrev pub AsksForm : Said → Action → Type 0
AsksForm s (action.DrawLoad drawn changes) = AsksDrawing s.form s.from s.to drawn
AsksForm s (action.DrawTasks drawn) = AsksDrawing s.form s.from s.to drawn
AsksForm s (action.Run Serve) = ⊤
AsksForm s (action.Check form strict) = AsksPlain s.form (action.Check form strict)
AsksForm s (action.Size all) = ⊤
AsksForm s a = AsksPlain s.form a × (is_for_drawings s ≡ false)

-- the options ask for the action
abbrev pub Asks : Said → Action → Type 0
Asks s a = AsksForm s a × AsksRest s a

-- the verb, with a form that shows no ticks, asks for the action
abbrev pub AsksPlainly : Text → Said → Action → Type 0
AsksPlainly verb s a = (verb ≡ action_name a) × AsksPlain s.form a × AsksRest s a

-- the verb, with these options, asks for the action
abbrev pub AsksFor : Text → Said → Action → Type 0
AsksFor verb s a = (verb ≡ action_name a) × Asks s a
