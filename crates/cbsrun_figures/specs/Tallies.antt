-- What a report keeps of the steps of one server, and how one more step changes it. The steps stand with the newest
-- first. For the code alone.
use Rattle.std.specs.Prelude.{◌≡◌, ◌≢◌, ℕ, ◌+◌, ◌-◌, ◌<◌, Bool, false, ◌&&◌, ltb, max, min, if◌then◌else◌, List, [], ◌∷◌}
use Rattle.std.specs.Prelude.{◌++◌, length, drop, get_or, map, Option, Some, None}
use Rattle.cbs_steps.specs.declared.reply.Ran.{Ran}
use Rattle.cbs_steps.specs.declared.reply.Ran.TheVariants as ran
use Rattle.cbs_steps.specs.declared.view.ServerView.{ServerView}
use Rattle.cbsrun_events.specs.Events.{begun}
use Rattle.cbsrun_events.specs.declared.seen.Event.{Event}
use Rattle.cbsrun_events.specs.declared.seen.Event.TheVariants as event
use Rattle.cbsrun_events.specs.declared.seen.Seen.{Seen}
use Rattle.cbsrun_figures.specs.Figures.{AreFigures, steps_of, told, told_sum, total, greatest, refusals}
use Rattle.cbsrun_figures.specs.Figures.{units_asked, units_run, is_used_up, units_exhausting, ticks_charged, throttled}
use Rattle.cbsrun_figures.specs.Figures.{accepted_job, waiting, greatest_backlog, finished, oldest_finished, put_off, newest, settled, response}
use Rattle.cbsrun_figures.specs.Figures.{exceeds, one_if, late_among, earliness, sum_of, least_of, lesser}
use Rattle.cbsrun_figures.specs.declared.early.Early.{Early}
use Rattle.cbsrun_figures.specs.declared.figures.Figures.{Figures}
use Rattle.cbsrun_figures.specs.declared.throttled_ticks.ThrottledTicks.{ThrottledTicks}
use Rattle.cbsrun_figures.specs.declared.throttled_ticks.Wait.{Wait}
use Rattle.cbsrun_figures.specs.declared.job.AcceptedJob.{AcceptedJob}
use Rattle.cbsrun_figures.specs.declared.job.Finish.{Finish}
use Rattle.cbsrun_figures.specs.declared.sums.Sums.{Sums}

-- the sums over steps
abbrev pub sums_of : ℕ → List Seen → Sums
sums_of budget own = record {
  refused = told (total (λ o. refusals o.event) own);
  asked = told (total (λ o. units_asked o.event) own);
  run = told (total (λ o. units_run o.event) own);
  used_up = told (total (λ o. units_exhausting budget o.event o.view) own);
  charged = told (total (λ o. ticks_charged o.event) own);
  greatest_charge = greatest (λ o. ticks_charged o.event) own;
}

-- the sums after one more run, after which the server has this view
abbrev pub sums_with : ℕ → Ran → Option ServerView → Sums → Sums
sums_with budget ran.Idle v s = s
sums_with budget ran.ClockEnd v s = s
sums_with budget _ v s =
    record s { run = told (s.run + 1); used_up = if is_used_up budget v then told (s.used_up + 1) else s.used_up }

-- the sums after one more step
abbrev pub sums_after : ℕ → Event → Option ServerView → Sums → Sums
sums_after budget (event.Accepted job number promised) v s = record s { asked = told (s.asked + job.units) }
sums_after budget (event.NotAccepted job error) v s = record s { refused = told (s.refused + 1); asked = told (s.asked + job.units) }
sums_after budget (event.Ran r) v s = sums_with budget r v s
sums_after budget (event.Charged server n) v s = record s { charged = told (s.charged + n); greatest_charge = max s.greatest_charge n }
sums_after budget _ v s = s

-- a server that has this view waits: it is throttled and has a job
abbrev pub waits : Option ServerView → Bool
waits None = false
waits (Some v) = v.throttled && ltb v.finished v.accepted

-- the wait of a server that has this view at a tick
abbrev pub wait_of : ℕ → Option ServerView → Option Wait
wait_of clock None = None
wait_of clock (Some v) = if waits (Some v) then Some (record { since = clock; deadline = v.deadline }) else None

-- some ticks, with those of the wait up to a tick
abbrev pub ticks_until : ℕ → Option Wait → ℕ → ℕ
ticks_until to None ticks = ticks
ticks_until to (Some w) ticks = told (ticks + (min w.deadline to - w.since))

-- the ticks up to its last step in which the server was throttled with a job, and the wait that goes on after that step
abbrev pub throttled_ticks_of : List Seen → ThrottledTicks
throttled_ticks_of [] = record { ticks = 0; wait = None }
throttled_ticks_of (o ∷ own) = record { ticks = told (throttled (begun o) own); wait = wait_of o.clock o.view }

-- the same after one more step, which began at one tick and left the clock at another
abbrev pub throttled_ticks_with : ℕ → ℕ → Option ServerView → ThrottledTicks → ThrottledTicks
throttled_ticks_with begun clock v h = record { ticks = ticks_until begun h.wait h.ticks; wait = wait_of clock v }

-- the sums over numbers of ticks by which jobs were finished earlier than promised
abbrev pub early_of : List ℕ → Early
early_of ns = record { count = told (length ns); total = told_sum (sum_of ns); least = least_of ns }

-- the same after one more finished job
abbrev pub early_with : Option ℕ → ℕ → Early → Early
early_with None at e = e
early_with (Some promised) at e = record {
  count = told (e.count + 1);
  total = told_sum (e.total + (promised - at));
  least = Some (lesser (promised - at) e.least);
}

-- of the jobs of a server, if it is told when the first of them ended: those that wait, and the one that ended
abbrev pub waiting_in : Option ℕ → List AcceptedJob → List AcceptedJob
waiting_in None jobs = jobs
waiting_in (Some at) jobs = drop 1 jobs

abbrev pub newest_in : Option ℕ → List AcceptedJob → Option Finish
newest_in None jobs = None
newest_in (Some at) jobs = oldest_finished at jobs

-- the tally of the jobs: those that wait, the one that the newest unit finished, the response times of those finished
-- before it, and sums
pub record Jobs : Type 0 where
  pub waiting : List AcceptedJob
  pub newest : Option Finish
  pub responses : List ℕ
  pub response_total : ℕ
  pub greatest_backlog : ℕ
  pub late : ℕ
  pub early : Early

-- the tally of these jobs
abbrev pub tally : List AcceptedJob → Option Finish → ℕ → List Finish → Jobs
tally waiting newest greatest_backlog settled = record {
  waiting = waiting;
  newest = newest;
  responses = map response settled;
  response_total = told_sum (sum_of (map response settled));
  greatest_backlog = greatest_backlog;
  late = told (late_among settled);
  early = early_of (earliness settled);
}

abbrev pub jobs_of : List Seen → Jobs
jobs_of own = tally (waiting own) (newest own) (greatest_backlog own) (settled own)

-- the same after the newest finished job was counted
abbrev pub settled_jobs : List Seen → Jobs
settled_jobs own = tally (waiting own) None (greatest_backlog own) (finished own)

-- if this tally of jobs is what `of` makes of the steps of a server, and these are their sums and the ticks in which it
-- was throttled and had a job, then these are its figures up to the tick `now`
abbrev pub MakeFigures : (List Seen → Jobs) → ℕ → ℕ → Jobs → Sums → Figures → Type 0
MakeFigures of now throttled_ticks jobs sums figures =
    (budget : ℕ) (own : List Seen) → jobs ≡ of own → sums ≡ sums_of budget own → throttled_ticks ≡ told (throttled now own)
    → AreFigures budget now own figures

-- the tally after a job was accepted
abbrev pub jobs_with : AcceptedJob → Jobs → Jobs
jobs_with job t = record t { waiting = t.waiting ++ job ∷ []; greatest_backlog = max t.greatest_backlog (length (t.waiting ++ job ∷ [])) }

-- the tally after the newest finished job was counted, if there is one
abbrev pub jobs_settled : Option Finish → Jobs → Jobs
jobs_settled None t = t
jobs_settled (Some f) t = record t {
  newest = None;
  responses = t.responses ++ response f ∷ [];
  response_total = told_sum (t.response_total + response f);
  late = told (t.late + one_if (exceeds (response f) f.job.within));
  early = early_with f.job.promised f.at t.early;
}

-- the tally after the oldest job was finished, if there is one
abbrev pub jobs_without : ℕ → Jobs → Jobs
jobs_without now t = record t { waiting = drop 1 t.waiting; newest = oldest_finished now t.waiting }

-- the tally after a run
abbrev pub jobs_after_run : ℕ → Ran → Jobs → Jobs
jobs_after_run now (ran.Done c) t = jobs_without now (jobs_settled t.newest t)
jobs_after_run now r t = jobs_settled t.newest t

-- the tally after a step
abbrev pub jobs_after : ℕ → Event → Jobs → Jobs
jobs_after now (event.Accepted job number promised) t = jobs_with (accepted_job job promised) t
jobs_after now (event.Ran r) t = jobs_after_run now r t
jobs_after now (event.Charged s n) t = record t { newest = put_off now t.newest }
jobs_after now _ t = t

-- the tally of one server, over its steps
pub record Kept : Type 0 where
  pub budget : ℕ
  pub sums : Sums
  pub throttled_ticks : ThrottledTicks
  pub jobs : Jobs

abbrev pub kept_of : ℕ → List Seen → Kept
kept_of budget own = record { budget = budget; sums = sums_of budget own; throttled_ticks = throttled_ticks_of own; jobs = jobs_of own }

-- the tally of server s
abbrev pub kept_at : List Kept → ℕ → Kept
kept_at kept s = get_or kept s (kept_of 0 [])

-- the ticks that a step lets pass, in which nobody runs
abbrev pub ticks_idle : Event → ℕ
ticks_idle (event.Advanced n) = n
ticks_idle _ = 0

-- what a report keeps: the tally of each server, and the number of ticks in which nobody ran
pub record Reported : Type 0 where
  pub kept : List Kept
  pub idle : ℕ

-- the report after a step that is of no server
abbrev pub passed : Event → Reported → Reported
passed (event.Advanced n) r = record r { idle = told (r.idle + n) }
passed _ r = r

-- the budgets of the servers
abbrev pub budgets : Reported → List ℕ
budgets r = map (λ k. k.budget) r.kept

-- for each server, the tally is the one of its steps among those that were seen
abbrev pub AreKept : List Kept → List Seen → Type 0
AreKept kept seen = (s : ℕ) → s < length kept → kept_at kept s ≡ kept_of (kept_at kept s).budget (steps_of s seen)

-- the report has the same servers as at first, and agrees with what was seen
pub record HasSeen (first now : Reported) (seen : List Seen) : Type 0 where
  pub budgets : budgets now ≡ budgets first
  pub kept : AreKept now.kept seen
  pub idle : now.idle ≡ told (total (λ o. ticks_idle o.event) seen)

-- one more step was added to the tally of server s, and no other tally changed
pub record AddsStep (s : ℕ) (o : Seen) (old new : List Kept) : Type 0 where
  pub here : s < length old → (own : List Seen) → kept_at old s ≡ kept_of (kept_at old s).budget own
      → kept_at new s ≡ kept_of (kept_at old s).budget (o ∷ own)
  pub others : (t : ℕ) → t ≢ s → kept_at new t ≡ kept_at old t
  pub budgets : map (λ k. k.budget) new ≡ map (λ k. k.budget) old
