-- The lines of a record: those of the run, with 0 for the results of jobs.
use Rattle.std.specs.Prelude.{ℕ, List, [], ◌∷◌, ◌++◌}
use Rattle.cbs_units.specs.Counting.{counted_ran}
use Rattle.cbsrun_events.specs.declared.seen.Event.{Event}
use Rattle.cbsrun_events.specs.declared.seen.Event.TheVariants as event
use Rattle.cbsrun_events.specs.declared.seen.Seen.{Seen}
use Rattle.cbsrun_lines.specs.Lines.{line_of}

-- the event, with 0 for the result of a job
abbrev pub without_result : Event → Event
without_result (event.Ran r) = event.Ran (counted_ran r)
without_result e = e

-- the lines of steps that are given with the newest first, with 0 for the results of jobs
abbrev pub lines_without_results : List Seen → List ℕ
lines_without_results [] = []
lines_without_results (o ∷ os) = lines_without_results os ++ line_of (record o { event = without_result o.event })
