-- What a server does in each tick, from its steps. The steps stand with the newest first.
use Rattle.std.specs.Prelude.{ℕ, ◌+◌, Bool, false, ltb, if◌then◌else◌, max, min, List, [], ◌∷◌, unwrap_or, Option, Some, None}
use Rattle.cbs_steps.specs.declared.reply.Ran.{Ran}
use Rattle.cbs_steps.specs.declared.reply.Ran.TheVariants as ran
use Rattle.cbs_steps.specs.declared.view.ServerView.{ServerView}
use Rattle.cbsrun_events.specs.Events.{begun}
use Rattle.cbsrun_events.specs.declared.seen.Event.{Event}
use Rattle.cbsrun_events.specs.declared.seen.Event.TheVariants as event
use Rattle.cbsrun_events.specs.declared.seen.Seen.{Seen}
use Rattle.cbsrun_window.specs.Stretches.{Joined, nothing_joined, with_stretch}
use Rattle.cbsrun_window.specs.declared.stretch.Kind.{Kind}
use Rattle.cbsrun_window.specs.declared.stretch.Kind.TheVariants as kind
use Rattle.cbsrun_window.specs.declared.stretch.Stretch.{Stretch}
use Rattle.cbsrun_chart.specs.declared.waits.Last.{Last}
use Rattle.cbsrun_window.specs.declared.window.Window.{Window}

-- the view of a server after a step, with the clock, if there is a view
abbrev pub last_seen : ℕ → Option ServerView → Option Last
last_seen clock None = None
last_seen clock (Some v) = Some (record { clock = clock; view = v })

-- a server before its first step: it has no job and no budget, and is not throttled
abbrev pub at_start : Last
at_start = record {
  clock = 0;
  view = record { budget = 0; deadline = 0; throttled = false; closed = false; accepted = 0; finished = 0 };
}

-- the view of a server after the newest of its steps
abbrev pub last_of : List Seen → Option Last
last_of [] = Some at_start
last_of (o ∷ own) = last_seen o.clock o.view

-- a server with this view has an unfinished job
abbrev pub has_job : ServerView → Bool
has_job v = ltb v.finished v.accepted

-- the tick until which a server that has this view at a tick is throttled: its deadline, but at most `to`
abbrev pub throttled_until : ServerView → ℕ → ℕ → ℕ
throttled_until v from to = if v.throttled then max (min v.deadline to) from else from

-- the tick at which the job came that a step accepts, if it accepts one. A charge of another server may have passed
-- that tick
abbrev pub came_of : Event → Option ℕ
came_of (event.Accepted job number promised) = Some job.came
came_of _ = None

-- the tick from which on a server has a job, before its next step, at the tick `to`: at once, if it has an unfinished
-- one, and else from when the job came that this step accepts. If it accepts none, the server has none before `to`
abbrev pub job_from : Last → Option ℕ → ℕ → ℕ
job_from l came to = if has_job l.view then l.clock else max (unwrap_or came to) l.clock

-- the ticks up to `to` in which the server is throttled and has no job
abbrev pub resting_stretch : Last → Option ℕ → ℕ → Stretch
resting_stretch l came to =
    record { kind = kind.Resting; from = l.clock; to = min (throttled_until l.view l.clock to) (job_from l came to) }

-- the ticks up to `to` in which the server is throttled and has a job
abbrev pub throttled_stretch : Last → Option ℕ → ℕ → Stretch
throttled_stretch l came to = record { kind = kind.Throttled; from = job_from l came to; to = throttled_until l.view l.clock to }

-- the ticks up to `to` in which the server has a job, is not throttled, and does not run
abbrev pub waiting_stretch : Last → Option ℕ → ℕ → Stretch
waiting_stretch l came to = record { kind = kind.Waits; from = max (throttled_until l.view l.clock to) (job_from l came to); to = to }

-- what goes on in the ticks of a run
abbrev pub kind_of_run : Ran → Kind
kind_of_run (ran.Unit s j) = kind.Runs j
kind_of_run (ran.Done c) = kind.Runs c.seq
kind_of_run _ = kind.Idle

-- what goes on in the ticks of a step
abbrev pub kind_of : Event → Kind
kind_of (event.Ran r) = kind_of_run r
kind_of (event.Charged s n) = kind.Charged
kind_of _ = kind.Idle

-- the ticks of a step, with what goes on in them
abbrev pub step_stretch : Seen → Stretch
step_stretch o = record { kind = kind_of o.event; from = begun o; to = o.clock }

-- the stretches of a server up to a tick, before which it makes no further step, by when the job came that it accepts
-- then
abbrev pub spans_until : Window → Option Last → Option ℕ → ℕ → Joined → Joined
spans_until w None came to j = j
spans_until w (Some l) came to j =
    with_stretch w (waiting_stretch l came to) (with_stretch w (throttled_stretch l came to) (with_stretch w (resting_stretch l came to) j))

-- the stretches after one more step
abbrev pub spans_after : Window → Option Last → Seen → Joined → Joined
spans_after w last o j = with_stretch w (step_stretch o) (spans_until w last (came_of o.event) (begun o) j)

-- the stretches after all steps: what the server does in each tick of the window
abbrev pub spans_seen : Window → List Seen → Joined
spans_seen w [] = nothing_joined
spans_seen w (o ∷ own) = spans_after w (last_of own) o (spans_seen w own)

-- the next tick, but at most the greatest number of a clock
abbrev pub next_tick : ℕ → ℕ
next_tick t = min (t + 1) 18446744073709551615

-- the ticks in which releases of a server are refused, after one more step
abbrev pub refused_after : Window → Event → Joined → Joined
refused_after w (event.NotAccepted job error) j = with_stretch w (record { kind = kind.Refused; from = job.came; to = next_tick job.came }) j
refused_after w _ j = j

-- those ticks after all steps
abbrev pub refused_seen : Window → List Seen → Joined
refused_seen w [] = nothing_joined
refused_seen w (o ∷ own) = refused_after w o.event (refused_seen w own)

-- the ticks in which nobody runs, after one more step
abbrev pub idle_after : Window → Seen → Joined → Joined
idle_after w o j = with_stretch w (step_stretch o) j
