-- The figures of one server, as functions of its steps. The steps stand with the newest first.
use Rattle.std.specs.Prelude.{◌≡◌, ℕ, ◌+◌, ◌-◌, Bool, false, ◌&&◌, ◌||◌, eqb, leb, ltb, min, max, if◌then◌else◌, List, [], ◌∷◌, ◌++◌, length, map, drop, filter}
use Rattle.std.specs.Prelude.{flat_map, slice_get, Option, Some, None, MatchOption, get_or}
use Rattle.std.specs.Option.{option_map, option_to_list}
use Rattle.cbs_steps.specs.declared.reply.Ran.TheVariants as ran
use Rattle.cbs_steps.specs.declared.view.ServerView.{ServerView}
use Rattle.cbsrun_events.specs.Events.{server_of, ticks_of_run, begun}
use Rattle.cbsrun_events.specs.declared.seen.Arrival.{Arrival}
use Rattle.cbsrun_events.specs.declared.seen.Event.{Event}
use Rattle.cbsrun_events.specs.declared.seen.Event.TheVariants as event
use Rattle.cbsrun_events.specs.declared.seen.Seen.{Seen}
use Rattle.cbsrun_figures.specs.Percentiles.{AreRanks}
use Rattle.cbsrun_figures.specs.declared.figures.Figures.{Figures}
use Rattle.cbsrun_figures.specs.declared.job.AcceptedJob.{AcceptedJob}
use Rattle.cbsrun_figures.specs.declared.job.Finish.{Finish}

-- the server is server s
abbrev pub is_server : ℕ → Option ℕ → Bool
is_server s None = false
is_server s (Some t) = eqb t s

-- the steps of server s
abbrev pub steps_of : ℕ → List Seen → List Seen
steps_of s [] = []
steps_of s (o ∷ seen) = if is_server s (server_of o.event) then o ∷ steps_of s seen else steps_of s seen

-- a count as a report gives it: at most 2^64 - 1; and a sum of ticks: at most 2^128 - 1
abbrev pub told : ℕ → ℕ
told n = min n 18446744073709551615

abbrev pub told_sum : ℕ → ℕ
told_sum n = min n 340282366920938463463374607431768211455

-- 1 if the condition holds, else 0
abbrev pub one_if : Bool → ℕ
one_if b = if b then 1 else 0

-- f of each step, added up
abbrev pub total : (Seen → ℕ) → List Seen → ℕ
total f [] = 0
total f (o ∷ own) = f o + total f own

-- the greatest f of a step, or 0 if there is no step
abbrev pub greatest : (Seen → ℕ) → List Seen → ℕ
greatest f [] = 0
greatest f (o ∷ own) = max (greatest f own) (f o)

-- the jobs that a step refused
abbrev pub refusals : Event → ℕ
refusals (event.NotAccepted job error) = 1
refusals _ = 0

-- the units of the job that came, accepted or not
abbrev pub units_asked : Event → ℕ
units_asked (event.Accepted job number promised) = job.units
units_asked (event.NotAccepted job error) = job.units
units_asked _ = 0

-- the units that ran
abbrev pub units_run : Event → ℕ
units_run (event.Ran r) = ticks_of_run r
units_run _ = 0

-- after a unit that used up the budget, and only then, the budget is whole again or the server waits for its
-- replenishment
abbrev pub is_used_up : ℕ → Option ServerView → Bool
is_used_up budget None = false
is_used_up budget (Some v) = v.throttled || eqb v.budget budget

-- the units that used up the budget, by what the server shows after them
abbrev pub units_exhausting : ℕ → Event → Option ServerView → ℕ
units_exhausting budget (event.Ran r) view = if is_used_up budget view then ticks_of_run r else 0
units_exhausting budget _ view = 0

-- the ticks that the server was charged
abbrev pub ticks_charged : Event → ℕ
ticks_charged (event.Charged s n) = n
ticks_charged _ = 0

-- how many ticks a server with this view waits from a tick on, throttled and with a job. It waits up to its deadline,
-- but not beyond `to`
abbrev pub waited : Option ServerView → ℕ → ℕ → ℕ
waited None from to = 0
waited (Some v) from to = if v.throttled && ltb v.finished v.accepted then min v.deadline to - from else 0

-- the ticks up to `now` in which the server was throttled and had a job. They are counted from each of its steps to the
-- beginning of its next one. Only its own steps and its deadline change what it shows
abbrev pub throttled : ℕ → List Seen → ℕ
throttled now [] = 0
throttled now (o ∷ own) = waited o.view o.clock now + throttled (begun o) own

-- an accepted job
abbrev pub accepted_job : Arrival → Option ℕ → AcceptedJob
accepted_job job promised = record { came = job.came; within = job.within; promised = promised }

-- the jobs that wait to be finished, the oldest first, after a step
abbrev pub waiting_after : Event → List AcceptedJob → List AcceptedJob
waiting_after (event.Accepted job number promised) jobs = jobs ++ accepted_job job promised ∷ []
waiting_after (event.Ran (ran.Done c)) jobs = drop 1 jobs
waiting_after _ jobs = jobs

-- the jobs that wait to be finished after all steps
abbrev pub waiting : List Seen → List AcceptedJob
waiting [] = []
waiting (o ∷ own) = waiting_after o.event (waiting own)

-- the greatest number of jobs that wait after a step
abbrev pub greatest_backlog : List Seen → ℕ
greatest_backlog [] = 0
greatest_backlog (o ∷ own) = max (greatest_backlog own) (length (waiting (o ∷ own)))

-- the oldest job that waits, finished at a tick
abbrev pub oldest_finished : ℕ → List AcceptedJob → Option Finish
oldest_finished now jobs = option_map (λ job. record { job = job; at = now }) (slice_get jobs 0)

-- the same finished job, if there is one, with its end put off to a tick
abbrev pub put_off : ℕ → Option Finish → Option Finish
put_off now f = option_map (λ f. record { job = f.job; at = now }) f

-- The job that the newest unit of the server finished, if it finished one, after a step that leaves the clock at `now`.
-- The job ends with the last charge for that unit: each such charge puts its end off
abbrev pub newest_after : ℕ → Event → List AcceptedJob → Option Finish → Option Finish
newest_after now (event.Ran (ran.Done c)) jobs newest = oldest_finished now jobs
newest_after now (event.Ran r) jobs newest = None
newest_after now (event.Charged s n) jobs newest = put_off now newest
newest_after now _ jobs newest = newest

-- that job after all steps
abbrev pub newest : List Seen → Option Finish
newest [] = None
newest (o ∷ own) = newest_after o.clock o.event (waiting own) (newest own)

-- the jobs that units before the newest finished, after a step: a further unit settles when the newest ended
abbrev pub settled_after : Event → Option Finish → List Finish → List Finish
settled_after (event.Ran r) newest settled = settled ++ option_to_list newest
settled_after _ newest settled = settled

-- those jobs after all steps, in order
abbrev pub settled : List Seen → List Finish
settled [] = []
settled (o ∷ own) = settled_after o.event (newest own) (settled own)

-- the finished jobs, in order
abbrev pub finished : List Seen → List Finish
finished own = settled own ++ option_to_list (newest own)

-- the response time of a finished job
abbrev pub response : Finish → ℕ
response f = f.at - f.job.came

-- the response time of each finished job
abbrev pub responses : List Seen → List ℕ
responses own = map response (finished own)

-- a number of ticks is greater than the wanted one
abbrev pub exceeds : ℕ → Option ℕ → Bool
exceeds n None = false
exceeds n (Some w) = ltb w n

-- a number of ticks is at least the wanted one
abbrev pub uses : ℕ → Option ℕ → Bool
uses n None = false
uses n (Some w) = leb w n

-- how many of the finished jobs took more ticks than wanted
abbrev pub late_among : List Finish → ℕ
late_among [] = 0
late_among (f ∷ fs) = one_if (exceeds (response f) f.job.within) + late_among fs

abbrev pub late : List Seen → ℕ
late own = late_among (finished own)

-- a job that waits at `now` is already late
abbrev pub is_overdue : ℕ → AcceptedJob → Bool
is_overdue now job = uses (now - job.came) job.within

-- how many of the jobs that wait at `now` are already late
abbrev pub overdue : ℕ → List AcceptedJob → ℕ
overdue now jobs = length (filter (is_overdue now) jobs)

-- how many ticks earlier than promised a job was finished, if a tick was promised; 0 if it was finished later
abbrev pub early_by : ℕ → Option ℕ → List ℕ
early_by at None = []
early_by at (Some promised) = (promised - at) ∷ []

-- the same for each finished job
abbrev pub earliness : List Finish → List ℕ
earliness fs = flat_map (λ f. early_by f.at f.job.promised) fs

-- numbers added up
abbrev pub sum_of : List ℕ → ℕ
sum_of [] = 0
sum_of (n ∷ ns) = n + sum_of ns

-- the lesser of a number and a second one, if there is a second one
abbrev pub lesser : ℕ → Option ℕ → ℕ
lesser n None = n
lesser n (Some m) = min n m

-- the least of numbers, if there are any
abbrev pub least_of : List ℕ → Option ℕ
least_of [] = None
least_of (n ∷ ns) = Some (lesser n (least_of ns))

-- the figures of a server with this budget, over its steps, up to the tick `now`
pub record AreFigures (budget now : ℕ) (own : List Seen) (f : Figures) : Type 0 where
  pub refused : f.refused ≡ told (total (λ o. refusals o.event) own)
  pub ended : f.finished ≡ length (finished own)
  pub pending : f.unfinished ≡ length (waiting own)
  pub late_ended : f.late_finished ≡ told (late own)
  pub late_pending : f.late_unfinished ≡ overdue now (waiting own)
  pub backlog : f.greatest_backlog ≡ greatest_backlog own
  pub asked : f.asked ≡ told (total (λ o. units_asked o.event) own)
  pub run : f.run ≡ told (total (λ o. units_run o.event) own)
  pub exhausting : f.used_up ≡ told (total (λ o. units_exhausting budget o.event o.view) own)
  pub throttled_ticks : f.throttled ≡ told (throttled now own)
  pub charged : f.charged ≡ told (total (λ o. ticks_charged o.event) own)
  pub greatest_charge : f.greatest_charge ≡ greatest (λ o. ticks_charged o.event) own
  pub ranks : MatchOption f.responses (finished own ≡ []) (AreRanks (responses own))
  pub response_total : f.response_total ≡ told_sum (sum_of (responses own))
  pub early_count : f.early_count ≡ told (length (earliness (finished own)))
  pub early_total : f.early_total ≡ told_sum (sum_of (earliness (finished own)))
  pub early_least : f.early_least ≡ least_of (earliness (finished own))

-- the figures of each server with these budgets, by number, over what was seen up to the tick `now`
pub record AreAllFigures (budgets : List ℕ) (now : ℕ) (seen : List Seen) (figures : List Figures) : Type 0 where
  pub count : length figures ≡ length budgets
  pub each : (s : ℕ) (f : Figures) → slice_get figures s ≡ Some f → AreFigures (get_or budgets s 0) now (steps_of s seen) f
