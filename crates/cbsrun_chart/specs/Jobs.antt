-- The jobs of one server, from its steps. The steps stand with the newest first.
use Rattle.std.specs.Prelude.{ℕ, ◌+◌, Bool, true, ◌&&◌, eqb, leb, ltb, if◌then◌else◌, min, List, [], ◌∷◌, ◌++◌, drop, filter, flat_map}
use Rattle.std.specs.Prelude.{slice_get, unwrap_or, Option, Some, None}
use Rattle.std.specs.List.{find}
use Rattle.std.specs.Option.{option_map}
use Rattle.cbs_steps.specs.declared.reply.Ran.{Ran}
use Rattle.cbs_steps.specs.declared.reply.Ran.TheVariants as ran
use Rattle.cbsrun_events.specs.declared.seen.Arrival.{Arrival}
use Rattle.cbsrun_events.specs.declared.seen.Event.{Event}
use Rattle.cbsrun_events.specs.declared.seen.Event.TheVariants as event
use Rattle.cbsrun_events.specs.declared.seen.Seen.{Seen}
use Rattle.cbsrun_chart.specs.declared.jobs.ChartJob.{ChartJob}
use Rattle.cbsrun_window.specs.declared.stretch.Kind.TheVariants.{Late}
use Rattle.cbsrun_window.specs.declared.stretch.Stretch.{Stretch}
use Rattle.cbsrun_window.specs.declared.window.Window.{Window}

-- the job that was accepted
abbrev pub job_of : Arrival → ℕ → Option ℕ → ChartJob
job_of job number promised = record { number = number; came = job.came; units = job.units; within = job.within; promised = promised; finish = None }

-- the job with this number, if it is among the jobs
abbrev pub job_numbered : ℕ → List ChartJob → Option ChartJob
job_numbered j jobs = find (λ job. eqb job.number j) jobs

-- the numbers of the jobs are this one, the next one, and so on
abbrev pub are_numbered_from : ℕ → List ChartJob → Bool
are_numbered_from j [] = true
are_numbered_from j (job ∷ jobs) = eqb job.number j && are_numbered_from (j + 1) jobs

-- the numbers of the jobs go on by one from each job to the next
abbrev pub are_in_turn : List ChartJob → Bool
are_in_turn [] = true
are_in_turn (job ∷ jobs) = are_numbered_from job.number (job ∷ jobs)

-- the job, finished at a tick
abbrev pub finished_at : ℕ → ChartJob → ChartJob
finished_at clock job =
    record { number = job.number; came = job.came; units = job.units; within = job.within; promised = job.promised; finish = Some clock }

-- a job is finished at no tick up to this one
abbrev pub is_open_at : ℕ → Option ℕ → Bool
is_open_at t None = true
is_open_at t (Some finish) = ltb t finish

-- the job is unfinished in some tick of the window
abbrev pub is_shown : Window → ChartJob → Bool
is_shown w job = is_open_at w.from job.finish && ltb job.came w.to

-- the jobs that the window shows among the finished ones, the job that the newest unit finished, if it finished one, and
-- the jobs that wait, the oldest first
pub record JobsSeen : Type 0 where
  pub finished : List ChartJob
  pub newest : Option ChartJob
  pub waiting : List ChartJob

abbrev pub no_jobs : JobsSeen
no_jobs = record { finished = []; newest = None; waiting = [] }

-- the newest finished job, if there is one and the window shows it
abbrev pub newest_shown : Window → Option ChartJob → List ChartJob
newest_shown w None = []
newest_shown w (Some job) = if is_shown w job then job ∷ [] else []

-- the jobs if nothing can put off the end of the newest finished one any more
abbrev pub jobs_settled : Window → JobsSeen → JobsSeen
jobs_settled w js = record { finished = js.finished ++ newest_shown w js.newest; newest = None; waiting = js.waiting }

-- the jobs after the oldest one that waits is finished at a tick, if a job waits
abbrev pub jobs_without : ℕ → JobsSeen → JobsSeen
jobs_without clock js = record { finished = js.finished; newest = option_map (finished_at clock) (slice_get js.waiting 0); waiting = drop 1 js.waiting }

-- the jobs after a run. The last unit of a job finishes the oldest one that waits
abbrev pub jobs_after_run : Window → ℕ → Ran → JobsSeen → JobsSeen
jobs_after_run w clock (ran.Done c) js = jobs_without clock (jobs_settled w js)
jobs_after_run w clock _ js = jobs_settled w js

-- The jobs after a step that leaves the clock at a tick. A charge is for the newest unit: a job that this unit finished
-- ends after the charge
abbrev pub jobs_after : Window → ℕ → Event → JobsSeen → JobsSeen
jobs_after w clock (event.Accepted job number promised) js = record js { waiting = js.waiting ++ job_of job number promised ∷ [] }
jobs_after w clock (event.Ran r) js = jobs_after_run w clock r js
jobs_after w clock (event.Charged s n) js = record js { newest = option_map (finished_at clock) js.newest }
jobs_after w clock _ js = js

-- the jobs after all steps
abbrev pub jobs_seen : Window → List Seen → JobsSeen
jobs_seen w [] = no_jobs
jobs_seen w (o ∷ own) = jobs_after w o.clock o.event (jobs_seen w own)

-- the jobs that the window shows: the finished ones, and after them those that wait
abbrev pub all_jobs : Window → JobsSeen → List ChartJob
all_jobs w js = (jobs_settled w js).finished ++ filter (is_shown w) js.waiting

-- the tick at which a job ended, if it ended up to a tick
abbrev pub ended_by : ℕ → Option ℕ → List ℕ
ended_by to None = []
ended_by to (Some finish) = if leb finish to then finish ∷ [] else []

-- the ticks up to the window's end at which these jobs ended
abbrev pub completions : Window → List ChartJob → List ℕ
completions w jobs = flat_map (λ job. ended_by w.to job.finish) jobs

-- the tick from which on a job is late, if there is a number of ticks within which it is to be finished. Otherwise it
-- is the given tick
abbrev pub late_from : Option ℕ → ℕ → ℕ → ℕ
late_from None came else_from = else_from
late_from (Some within) came else_from = min (came + within) 18446744073709551615

-- the ticks in which a job is late, in a run that ends at a tick. They go from the tick by which the job was to be
-- finished to its end
abbrev pub late_stretch : ℕ → ChartJob → Stretch
late_stretch end job = let to = unwrap_or job.finish end in record { kind = Late; from = late_from job.within job.came to; to = to }
