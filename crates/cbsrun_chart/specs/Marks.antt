-- The marks of a row, from a server's steps: deadlines, arrivals and refused releases. The steps stand with the newest first.
use Rattle.std.specs.Prelude.{ℕ, ◌+◌, Bool, ◌&&◌, ◌||◌, eqb, leb, ltb, if◌then◌else◌, List, [], ◌∷◌, ◌++◌, Option, Some, None, min}
use Rattle.cbs_rate.specs.Rate.{Rate}
use Rattle.cbs_steps.specs.declared.view.ServerView.{ServerView}
use Rattle.cbsrun_events.specs.Events.{begun}
use Rattle.cbsrun_events.specs.declared.seen.Seen.{Seen}
use Rattle.cbsrun_chart.specs.Rows.{last_of}
use Rattle.cbsrun_chart.specs.declared.waits.Last.{Last}
use Rattle.cbsrun_window.specs.declared.window.Window.{Window}
use Rattle.cbsrun_events.specs.declared.seen.Event.{Event}
use Rattle.cbsrun_events.specs.declared.seen.Event.TheVariants as event
use Rattle.cbsrun_window.specs.Windows.{has_tick}

-- a throttled server that makes no step until a tick is replenished at or before that tick
abbrev pub is_renewed : Last → ℕ → Bool
is_renewed l to = l.view.throttled && leb l.view.deadline to

-- the deadline of a server after that replenishment: one period later
abbrev pub renewed_deadline : Rate → Last → ℕ
renewed_deadline r l = l.view.deadline + r.period

-- the deadline of a server at a tick, before a step of its own. At the start it is 0
abbrev pub deadline_at : Rate → Option Last → ℕ → ℕ
deadline_at r None to = 0
deadline_at r (Some l) to = if is_renewed l to then renewed_deadline r l else l.view.deadline

-- one more deadline, if the window shows it. A deadline at the window's end is shown too
abbrev pub with_deadline : Window → ℕ → List ℕ → List ℕ
with_deadline w d ds = if leb w.from d && leb d w.to then ds ++ d ∷ [] else ds

-- the deadlines up to a tick, before which the server makes no further step
abbrev pub deadlines_until : Window → Rate → Option Last → ℕ → List ℕ → List ℕ
deadlines_until w r None to ds = ds
deadlines_until w r (Some l) to ds = if is_renewed l to then with_deadline w (renewed_deadline r l) ds else ds

-- the deadlines with the one after a step, if the step ends by the window's end and the deadline changed
abbrev pub deadlines_with : Window → ℕ → ℕ → Option ServerView → List ℕ → List ℕ
deadlines_with w before clock None ds = ds
deadlines_with w before clock (Some v) ds = if ltb w.to clock || eqb v.deadline before then ds else with_deadline w v.deadline ds

-- the deadlines after one more step
abbrev pub deadlines_after : Window → Rate → Option Last → Seen → List ℕ → List ℕ
deadlines_after w r last o ds = deadlines_with w (deadline_at r last (begun o)) o.clock o.view (deadlines_until w r last (begun o) ds)

-- the deadlines after all steps
abbrev pub deadlines_seen : Window → Rate → List Seen → List ℕ
deadlines_seen w r [] = []
deadlines_seen w r (o ∷ own) = deadlines_after w r (last_of own) o (deadlines_seen w r own)

-- how many releases of a server were refused in the window, after one more step
abbrev pub refusals_after : Window → Event → ℕ → ℕ
refusals_after w (event.NotAccepted job error) n = if has_tick w job.came then min (n + 1) 18446744073709551615 else n
refusals_after w _ n = n

-- how many were refused after all steps
abbrev pub refusals_seen : Window → List Seen → ℕ
refusals_seen w [] = 0
refusals_seen w (o ∷ own) = refusals_after w o.event (refusals_seen w own)

-- the ticks of the window at which accepted jobs came, after one more step
abbrev pub arrivals_after : Window → Event → List ℕ → List ℕ
arrivals_after w (event.Accepted job number promised) ts = if has_tick w job.came then ts ++ job.came ∷ [] else ts
arrivals_after w _ ts = ts

-- those ticks after all steps
abbrev pub arrivals_seen : Window → List Seen → List ℕ
arrivals_seen w [] = []
arrivals_seen w (o ∷ own) = arrivals_after w o.event (arrivals_seen w own)
