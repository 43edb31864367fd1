-- Streams of jobs on one server, each with a least distance in time and a greatest span. By when each of their jobs is
-- finished, and that each is accepted.
use Rattle.std.specs.Prelude.{◌≡◌, ℕ, ◌+◌, ◌*◌, ◌≤◌, ◌<◌, false, eqb, if◌then◌else◌, List, [], ◌∷◌, length, map, get_or, Option, Some, None}
use Rattle.std.specs.Int.{div_ceil}
use Rattle.std.specs.List.{sum_by, AllByRecursion}
use Rattle.cbs_job.specs.Work.{Meaning}
use Rattle.cbs_lists.specs.Lists.{changed_at}
use Rattle.cbs_rate.specs.Rate.{Rate}
use Rattle.cbs_rate.specs.Plan.{total_share, all_periods}
use Rattle.cbs_steps.specs.Charged.{others_charges, IsEndOf}
use Rattle.cbs_steps.specs.Faces.{submit_refusal}
use Rattle.cbs_steps.specs.History.{Setup, History, account, faces, after, world_after}
use Rattle.cbs_steps.specs.Laws.{account_in}
use Rattle.cbs_steps.specs.Promises.{when, IsJobOf, IsFinished}
use Rattle.cbs_steps.specs.Quiet.{AdvanceQuietly}
use Rattle.cbs_steps.specs.declared.error.CoreError.{CoreError}
use Rattle.cbs_steps.specs.declared.step.Step.{Step}
use Rattle.cbs_steps.specs.declared.step.Step.TheVariants.{Submit}

-- the span of so many ticks: one period of the server for each budget that they need
abbrev pub span_of : Rate → ℕ → ℕ
span_of r ticks = div_ceil ticks r.budget * r.period

-- A stream. Each of its jobs has a span of at most `rate.budget`, and comes at least `rate.period` ticks after the job
-- before. The next job may come at `open_at`
pub record Stream : Type 0 where
  pub rate : Rate
  pub open_at : ℕ

-- the stream if there is no such stream
abbrev pub no_stream : Stream
no_stream = record { rate = record { budget = 0; period = 0 }; open_at = 0 }

-- the streams before any job came
abbrev pub new_streams : List Rate → List Stream
new_streams rates = map (λ r. record { rate = r; open_at = 0 }) rates

-- the stream after a job came at now
abbrev pub came : ℕ → Stream → Stream
came now x = record x { open_at = now + x.rate.period }

-- a stream has a span and a distance above 0
pub record IsStream (r : Rate) : Type 0 where
  pub span : 0 < r.budget
  pub distance : 0 < r.period

-- the streams ask for no more than all the server's time: the sum of span / distance over them is at most 1
pub record IsBearable (rates : List Rate) : Type 0 where
  pub each : AllByRecursion IsStream rates
  pub fits : total_share rates ≤ all_periods rates

-- the sum of all spans
abbrev pub all_spans : List Rate → ℕ
all_spans rates = sum_by (λ r. r.budget) rates

-- the backlog that suffices if each job is finished so many ticks after it came: for each stream, as many jobs as come
-- meanwhile
abbrev pub backlog_for : ℕ → List Rate → ℕ
backlog_for within rates = sum_by (λ r. div_ceil within r.period) rates

-- the streams after a submit, by why it is refused, if it is: only an accepted submit is a job of stream i
abbrev pub streams_submitted : List Stream → ℕ → ℕ → Option CoreError → List Stream
streams_submitted xs now i None = changed_at (came now) xs i
streams_submitted xs now i (Some e) = xs

module _ {W : Type 0} (work : Meaning W) (setup : Setup) (s : ℕ) where
  -- how many jobs server s has accepted, which is the number of the next job
  abbrev pub jobs_of : List (Step W) → ℕ
  jobs_of M = length (account (after work setup M).accounts s).accepted

  module _ (rates : List Rate) (of : ℕ → ℕ) where
    -- the streams after one more step after M, in which job q of server s belongs to stream `of q`
    abbrev pub streams_next : List (Step W) → List Stream → Step W → List Stream
    streams_next M xs (Submit t job) =
        if eqb t s then streams_submitted xs (after work setup M).now (of (jobs_of M)) (submit_refusal setup.backlog (faces work
        (after work setup M)) t) else xs
    streams_next M xs _ = xs

    -- the streams after the steps
    abbrev pub streams_after : List (Step W) → List Stream
    streams_after [] = new_streams rates
    streams_after (x ∷ M) = streams_next M (streams_after M) x

    -- the stream of the next job
    abbrev pub next_stream : List (Step W) → Stream
    next_stream M = get_or (streams_after M) (of (jobs_of M)) no_stream

    -- the job may come next: its span is at most its stream's, and it does not come early
    pub record IsStreamJob (M : List (Step W)) (job : W) : Type 0 where
      pub there : of (jobs_of M) < length rates
      pub small : span_of (account (after work setup M).accounts s).terms.reservation (work.left job) ≤ (next_stream M).rate.budget
      pub late : (next_stream M).open_at ≤ (after work setup M).now

    -- if the step gives server s a job, it is a job of a stream
    abbrev pub IsStreamStep : List (Step W) → Step W → Type 0
    IsStreamStep M (Submit t job) = t ≡ s → submit_refusal setup.backlog (faces work (after work setup M)) t ≡ None → IsStreamJob M job
    IsStreamStep M _ = Unit {0}

    -- all jobs of server s are jobs of the streams
    abbrev pub AreStreams : List (Step W) → Type 0
    AreStreams [] = Unit {0}
    AreStreams (x ∷ M) = AreStreams M × IsStreamStep M x

module _ {W : Type 0} where
  -- server s was charged nothing
  abbrev pub IsUncharged : Meaning W → History W → ℕ → Type 0
  IsUncharged work N s = (account_in work N s).charges.total ≡ 0

  -- a submit to server s is accepted next, unless the server is closed
  abbrev pub Accepts : Meaning W → History W → ℕ → Type 0
  Accepts work N s = (account_in work N s).closed ≡ false → submit_refusal N.setup.backlog (faces work (world_after work N)) s ≡ None

  -- Let a server be charged nothing, and let its jobs be those of streams that ask for no more than all its time. Then
  -- each job is finished `all_spans` ticks after it came. It is later by no more than what the others were charged,
  -- whatever they are asked for.
  abbrev pub KeepsStreams : Meaning W → History W → Type 0
  KeepsStreams work N = AdvanceQuietly work N.setup N.steps → (s : ℕ) (rates : List Rate) (of : ℕ → ℕ) → IsBearable rates → IsUncharged work N s
      → (K M : List (Step W)) (job : W) → IsJobOf work N K M s job → AreStreams work N.setup s rates of (Submit s job ∷ M)
      → (world_after work (when N M)).now + all_spans rates + others_charges (world_after work N).accounts s ≤ (world_after work N).now → IsFinished work N M s

  -- Each such job ends as soon.
  abbrev pub KeepsStreamEnds : Meaning W → History W → Type 0
  KeepsStreamEnds work N = AdvanceQuietly work N.setup N.steps → (s : ℕ) (rates : List Rate) (of : ℕ → ℕ) → IsBearable rates → IsUncharged work N s
      → (C K M : List (Step W)) (job : W) → IsEndOf work N C K M s job → AreStreams work N.setup s rates of (Submit s job ∷ M)
      → (world_after work N).now ≤ (world_after work (when N M)).now + all_spans rates + others_charges (world_after work N).accounts s

  -- The server accepts each such job. This holds if the others are charged at most `delay` ticks, and the backlog
  -- suffices for as long as a job takes.
  abbrev pub KeepsAccepting : Meaning W → History W → Type 0
  KeepsAccepting work N = AdvanceQuietly work N.setup N.steps → (s : ℕ) (rates : List Rate) (of : ℕ → ℕ) (delay : ℕ) → IsBearable rates → IsUncharged work N s
      → others_charges (world_after work N).accounts s ≤ delay → backlog_for (all_spans rates + delay) rates ≤ N.setup.backlog
      → AreStreams work N.setup s rates of N.steps → (job : W) → IsStreamJob work N.setup s rates of N.steps job → Accepts work N s
