-- A record as a run: its steps, as a view sees them. What is seen of a run, as the steps of a record.
use Rattle.std.specs.Prelude.{◌≡◌, ℕ, List, [], ◌∷◌, ◌++◌, map, None}
use Rattle.cbs_rules.specs.Setups.{ModedPlan}
use Rattle.cbs_steps.specs.History.{History}
use Rattle.cbs_steps.specs.declared.step.Step.{Step}
use Rattle.cbs_steps.specs.declared.step.Step.TheVariants as step
use Rattle.cbs_tape.specs.Tapes.{all_steps}
use Rattle.cbs_units.specs.Counting.{counting, counted_ran}
use Rattle.cbs_units.specs.declared.count.CountJob.{CountJob}
use Rattle.cbsrun_events.specs.declared.seen.Event.{Event}
use Rattle.cbsrun_events.specs.declared.seen.Event.TheVariants as event
use Rattle.cbsrun_events.specs.declared.seen.Seen.{Seen}
use Rattle.cbsrun_loads.specs.Loads.{LoadFile}
use Rattle.cbsrun_records.specs.Records.{RecordFile}
use Rattle.cbsrun_runs.specs.Loads.{seen_in}
use Rattle.cbsrun_runs.specs.Runs.{Shown}
use Rattle.cbsrun_runs.specs.Steps.{arrival_at, clock_after, seen_from, start_with, KeepsLawsFrom}

-- the plan and the modes of a record
abbrev pub setup_of_record : RecordFile → ModedPlan
setup_of_record f = record { plan = f.plan; modes = f.modes }

-- the history of an executor with a record's servers, modes and backlog, before its first step
abbrev pub start_of_record : RecordFile → History CountJob
start_of_record f = start_with (setup_of_record f) f.backlog

-- the steps of a record, in order
abbrev pub steps_in_record : RecordFile → List (Step CountJob)
steps_in_record f = all_steps f.entries

-- all steps of a record, as a view sees them, the newest first
abbrev pub seen_in_record : RecordFile → List Seen
seen_in_record f = seen_from counting (start_of_record f) (steps_in_record f) []

-- the clock after all steps
abbrev pub clock_of_record : RecordFile → ℕ
clock_of_record f = clock_after counting (start_of_record f) (steps_in_record f)

-- a record as a run: its steps are made again
abbrev pub run_of_record : RecordFile → Shown
run_of_record f = record {
  names = f.names;
  modes = f.modes;
  plan = f.plan;
  backlog = f.backlog;
  tick = f.tick;
  seed = None;
  within = λ s. None;
  seen = seen_in_record f;
  end = clock_of_record f;
}

-- what the replies to the steps of a record mean
abbrev pub RecordKeepsLaws : RecordFile → Type 0
RecordKeepsLaws f = KeepsLawsFrom counting (start_of_record f) (steps_in_record f)

-- the step of an event, with a job as its units
abbrev pub step_told : Event → Step CountJob
step_told (event.Accepted job q promised) = step.Submit job.server (record { units = job.units })
step_told (event.NotAccepted job e) = step.Submit job.server (record { units = job.units })
step_told (event.Ran r) = step.Run
step_told (event.Advanced n) = step.Advance n
step_told (event.NotAdvanced n e) = step.Advance n
step_told (event.Closed s) = step.Close s
step_told (event.NotClosed s e) = step.Close s
step_told (event.Charged s n) = step.Charge s n
step_told (event.NotCharged s n e) = step.Charge s n

-- the steps of what is seen, in order. What is seen stands with the newest first
abbrev pub steps_told : List Seen → List (Step CountJob)
steps_told [] = []
steps_told (o ∷ os) = steps_told os ++ step_told o.event ∷ []

-- the event at this clock, if of a job nothing is known but its units: it came at its submit, nobody says within how many
-- ticks it is wanted, and its result is 0
abbrev pub counted_event : ℕ → Event → Event
counted_event now (event.Accepted job q promised) = event.Accepted (arrival_at now job.server job.units) q promised
counted_event now (event.NotAccepted job e) = event.NotAccepted (arrival_at now job.server job.units) e
counted_event now (event.Ran r) = event.Ran (counted_ran r)
counted_event now e = e

-- what is seen then
abbrev pub counted_seen : Seen → Seen
counted_seen o = record o { event = counted_event o.clock o.event }

-- the record has the servers and the backlog of the load, and each step of its simulation
pub record IsRecordOf (f : LoadFile) (r : RecordFile) : Type 0 where
  pub modes : r.modes ≡ f.modes
  pub plan : r.plan ≡ f.plan
  pub backlog : r.backlog ≡ f.backlog
  pub steps : steps_in_record r ≡ steps_told (seen_in f)

-- such a record shows the simulation again, but for what is not known of jobs
abbrev pub ShowsAgain : LoadFile → RecordFile → Type 0
ShowsAgain f r = IsRecordOf f r → seen_in_record r ≡ map counted_seen (seen_in f)
