-- The lines of a record are those of the run, with 0 for the results of jobs.
use Rattle.std.proofs.Common.{◌≡◌, ◌∙◌, ℕ, List, [], ◌∷◌, ◌++◌, Option, ap, map, refl}
use Rattle.cbs_steps.specs.declared.view.ServerView.{ServerView}
use Rattle.cbsrun_events.specs.declared.seen.Event.{Event}
use Rattle.cbsrun_events.specs.declared.seen.Event.TheVariants as event
use Rattle.cbsrun_events.specs.declared.seen.Seen.{Seen}
use Rattle.cbsrun_loads.specs.Loads.{IsLoad, LoadFile}
use Rattle.cbsrun_records.specs.Records.{RecordFile}
use Rattle.cbsrun_runs.specs.Loads.{seen_in}
use Rattle.cbsrun_runs.specs.Records.{counted_event, counted_seen, seen_in_record, IsRecordOf}
use Rattle.cbsrun_runs.proofs.ShownAgain.{shown_again}
use Rattle.cbsrun_lines.specs.Lines.{line_of, lines_of}
use Rattle.cbsrun_lines.specs.Records.{lines_without_results, without_result}

-- of a job the line tells its server, its number and its result alone
line_again : (clock : ℕ) (e : Event) (view : Option ServerView)
    → line_of (record { clock = clock; event = counted_event clock e; view = view }) ≡ line_of (record { clock = clock; event = without_result e; view = view })
line_again clock (event.Accepted job q promised) view = refl
line_again clock (event.NotAccepted job e) view = refl
line_again clock (event.Ran r) view = refl
line_again clock (event.Advanced n) view = refl
line_again clock (event.NotAdvanced n e) view = refl
line_again clock (event.Closed s) view = refl
line_again clock (event.NotClosed s e) view = refl
line_again clock (event.Charged s n) view = refl
line_again clock (event.NotCharged s n e) view = refl

-- the lines of all steps
all_again : (seen : List Seen) → lines_of (map counted_seen seen) ≡ lines_without_results seen
unfolding lines_of
all_again [] = refl
all_again (o ∷ os) =
    ap (λ (t : List ℕ). t ++ line_of (counted_seen o)) (all_again os)
    ∙ ap (λ (t : List ℕ). lines_without_results os ++ t) (line_again o.clock o.event o.view)

-- so a record of a simulation has the lines of the simulation
pub lines_again : (f : LoadFile) (r : RecordFile) → IsLoad f → IsRecordOf f r → lines_of (seen_in_record r) ≡ lines_without_results (seen_in f)
lines_again f r load is = ap lines_of (shown_again f r load is) ∙ all_again (seen_in f)
