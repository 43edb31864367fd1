-- The jobs of one server, from its steps. The steps stand with the newest first.
use Rattle.std.specs.Prelude.{ℕ, ◌+◌, ◌-◌, Bool, List, [], ◌∷◌, ◌++◌, drop, slice_get, Option, Some, None}
use Rattle.std.specs.Option.{option_map, option_to_list}
use Rattle.cbs_steps.specs.declared.reply.Ran.{Ran}
use Rattle.cbs_steps.specs.declared.reply.Ran.TheVariants as ran
use Rattle.cbsrun_events.specs.declared.seen.Arrival.{Arrival}
use Rattle.cbsrun_events.specs.declared.seen.Event.{Event}
use Rattle.cbsrun_events.specs.declared.seen.Event.TheVariants as event
use Rattle.cbsrun_events.specs.declared.seen.Seen.{Seen}
use Rattle.cbsrun_figures.specs.Figures.{exceeds, told, uses}
use Rattle.cbsrun_csv.specs.declared.job.CsvJob.{CsvJob}

-- the job that was accepted
abbrev pub job_of : Arrival → ℕ → CsvJob
job_of job number = record { number = number; came = job.came; within = job.within; charged = 0; finish = None }

-- the job, for whose units its server was charged this many ticks
abbrev pub with_charged : ℕ → CsvJob → CsvJob
with_charged charged job = record { number = job.number; came = job.came; within = job.within; charged = charged; finish = job.finish }

-- the job, ended at a tick, for whose units its server was charged this many ticks
abbrev pub ended : ℕ → ℕ → CsvJob → CsvJob
ended clock charged job = record { number = job.number; came = job.came; within = job.within; charged = charged; finish = Some clock }

-- the job, whose end a charge of n ticks put off to a tick
abbrev pub put_off : ℕ → ℕ → CsvJob → CsvJob
put_off clock n job = ended clock (told (job.charged + n)) job

-- how many ticks after its arrival a job ended, if it ended
abbrev pub ticks_to : ℕ → Option ℕ → Option ℕ
ticks_to came None = None
ticks_to came (Some finish) = Some (finish - came)

abbrev pub response_of : CsvJob → Option ℕ
response_of job = ticks_to job.came job.finish

-- a job is late. `response` is how many ticks it took, if it ended, and `age` how many ticks ago it came. A finished job
-- is late if it took more than `within`; an unfinished one, if it came at least so long ago
abbrev pub is_late_after : Option ℕ → ℕ → Option ℕ → Bool
is_late_after None age within = uses age within
is_late_after (Some response) age within = exceeds response within

-- a job is late, in a run that ends at a tick
abbrev pub is_late : ℕ → CsvJob → Bool
is_late end job = is_late_after (response_of job) (end - job.came) job.within

-- The jobs of a server: those that units before the newest finished; the one that the newest unit finished, if it
-- finished one; those that wait, the oldest first, with the ticks that were charged for the units of the first of these;
-- and when the refused ones came
pub record JobsSeen : Type 0 where
  pub finished : List CsvJob
  pub newest : Option CsvJob
  pub charged : ℕ
  pub waiting : List CsvJob
  pub refused : List ℕ

abbrev pub no_jobs : JobsSeen
no_jobs = record { finished = []; newest = None; charged = 0; waiting = []; refused = [] }

-- the jobs if nothing can put off the end of the newest finished one any more
abbrev pub settled : JobsSeen → JobsSeen
settled js = record js { finished = js.finished ++ option_to_list js.newest; newest = None }

-- the jobs after the oldest one that waits ended at a tick, if a job waits
abbrev pub jobs_without : ℕ → JobsSeen → JobsSeen
jobs_without clock js = record js { newest = option_map (ended clock js.charged) (slice_get js.waiting 0); charged = 0; waiting = drop 1 js.waiting }

-- the jobs after a run. The last unit of a job ends the oldest one that waits
abbrev pub jobs_after_run : ℕ → Ran → JobsSeen → JobsSeen
jobs_after_run clock (ran.Done c) js = jobs_without clock (settled js)
jobs_after_run clock _ js = settled js

-- the jobs after a charge of n ticks for the newest unit: for the job that this unit finished, whose end it puts off, or
-- else for the oldest one that waits
abbrev pub jobs_charged : ℕ → ℕ → Option CsvJob → JobsSeen → JobsSeen
jobs_charged clock n None js = record js { charged = told (js.charged + n) }
jobs_charged clock n (Some job) js = record js { newest = Some (put_off clock n job) }

-- the jobs after a step that leaves the clock at a tick
abbrev pub jobs_after : ℕ → Event → JobsSeen → JobsSeen
jobs_after clock (event.Accepted job number promised) js = record js { waiting = js.waiting ++ job_of job number ∷ [] }
jobs_after clock (event.NotAccepted job error) js = record js { refused = js.refused ++ job.came ∷ [] }
jobs_after clock (event.Ran r) js = jobs_after_run clock r js
jobs_after clock (event.Charged s n) js = jobs_charged clock n js.newest js
jobs_after clock _ js = js

-- the jobs after all steps
abbrev pub jobs_seen : List Seen → JobsSeen
jobs_seen [] = no_jobs
jobs_seen (o ∷ own) = jobs_after o.clock o.event (jobs_seen own)

-- the finished jobs, in the order in which they ended
abbrev pub finished_jobs : JobsSeen → List CsvJob
finished_jobs js = js.finished ++ option_to_list js.newest

-- jobs that wait, for the units of the first of which this many ticks were charged
abbrev pub first_charged : ℕ → List CsvJob → List CsvJob
first_charged charged [] = []
first_charged charged (job ∷ jobs) = with_charged charged job ∷ jobs

-- the unfinished jobs, the oldest first
abbrev pub unfinished_jobs : JobsSeen → List CsvJob
unfinished_jobs js = first_charged js.charged js.waiting
