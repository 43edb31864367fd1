-- What is collected of all servers, and what a picture shows of them.
use Rattle.std.specs.Prelude.{◌≡◌, ℕ, ◌<◌, ◌≤◌, Bool, false, ◌&&◌, eqb, leb, ltb, if◌then◌else◌, List, [], ◌∷◌, length, map, get_or, set, slice_get, is_none}
use Rattle.std.specs.Prelude.{Option, Some, None}
use Rattle.std.specs.List.{list_any}
use Rattle.cbs_rate.specs.Rate.{Rate}
use Rattle.cbsrun_figures.specs.Figures.{steps_of}
use Rattle.cbs_steps.specs.declared.reply.Ran.{Ran}
use Rattle.cbs_steps.specs.declared.reply.Ran.TheVariants as unit
use Rattle.cbsrun_events.specs.Events.{begun, server_of}
use Rattle.cbsrun_events.specs.declared.seen.Event.{Event}
use Rattle.cbsrun_events.specs.declared.seen.Event.TheVariants as event
use Rattle.cbsrun_events.specs.declared.seen.Seen.{Seen}
use Rattle.cbsrun_chart.specs.Courses.{CourseSeen, course_after, course_until, course_seen, no_course}
use Rattle.cbsrun_chart.specs.Marks.{deadlines_after, deadlines_until, deadlines_seen, arrivals_after, arrivals_seen, refusals_after, refusals_seen}
use Rattle.cbsrun_chart.specs.Jobs.{JobsSeen, jobs_after, jobs_seen, no_jobs, all_jobs, completions, late_stretch}
use Rattle.cbsrun_chart.specs.Rows.{at_start, idle_after, last_of, last_seen, refused_after, refused_seen, spans_after, spans_until, spans_seen}
use Rattle.cbsrun_chart.specs.Ticks.{AreInTurn, is_kind, kind_at}
use Rattle.cbsrun_window.specs.Stretches.{AreApart, Joined, all_of, is_covered, nothing_joined, takes}
use Rattle.cbsrun_chart.specs.declared.chart.Chart.{Chart}
use Rattle.cbsrun_chart.specs.declared.chart.ServerChart.{ServerChart}
use Rattle.cbsrun_window.specs.declared.stretch.Kind.{Kind}
use Rattle.cbsrun_window.specs.declared.stretch.Kind.TheVariants as kind
use Rattle.cbsrun_chart.specs.declared.waits.Last.{Last}
use Rattle.cbsrun_window.specs.declared.window.Window.{Window}
use Rattle.cbsrun_chart.specs.declared.jobs.ChartJob.{ChartJob}
use Rattle.cbsrun_window.specs.declared.stretch.Stretch.{Stretch}

-- what is collected of one server
pub record RowSeen : Type 0 where
  pub reservation : Rate
  pub last : Option Last
  pub spans : Joined
  pub refused : Joined
  pub refusals : ℕ
  pub arrivals : List ℕ
  pub jobs : JobsSeen
  pub deadlines : List ℕ
  pub course : CourseSeen

-- what is collected of a server before its first step
abbrev pub new_row : Rate → RowSeen
new_row r = record {
  reservation = r;
  last = Some at_start;
  spans = nothing_joined;
  refused = nothing_joined;
  refusals = 0;
  arrivals = [];
  jobs = no_jobs;
  deadlines = [];
  course = no_course;
}

-- what is collected after one more step
abbrev pub row_after : Window → Seen → RowSeen → RowSeen
row_after w o row = record {
  reservation = row.reservation;
  last = last_seen o.clock o.view;
  spans = spans_after w row.last o row.spans;
  refused = refused_after w o.event row.refused;
  refusals = refusals_after w o.event row.refusals;
  arrivals = arrivals_after w o.event row.arrivals;
  jobs = jobs_after w o.clock o.event row.jobs;
  deadlines = deadlines_after w row.reservation row.last o row.deadlines;
  course = course_after w row.reservation row.last o row.course;
}

-- what is collected of all steps, the newest first
abbrev pub row_seen : Window → Rate → List Seen → RowSeen
row_seen w r own = record {
  reservation = r;
  last = last_of own;
  spans = spans_seen w own;
  refused = refused_seen w own;
  refusals = refusals_seen w own;
  arrivals = arrivals_seen w own;
  jobs = jobs_seen w own;
  deadlines = deadlines_seen w r own;
  course = course_seen w r own;
}

-- what is collected, with what goes on after the last step up to a tick
abbrev pub row_until : Window → ℕ → RowSeen → RowSeen
row_until w to row = record {
  reservation = row.reservation;
  last = row.last;
  spans = spans_until w row.last None to row.spans;
  refused = row.refused;
  refusals = row.refusals;
  arrivals = row.arrivals;
  jobs = row.jobs;
  deadlines = deadlines_until w row.reservation row.last to row.deadlines;
  course = course_until w row.reservation row.last to row.course;
}

-- what is collected of all servers: for each server its row, and the ticks in which nobody runs
pub record Kept : Type 0 where
  pub window : Window
  pub rows : List RowSeen
  pub idle : Joined

-- what stands for a server that does not exist
abbrev pub no_row : RowSeen
no_row = new_row (record { budget = 0; period = 0 })

abbrev pub row_at : List RowSeen → ℕ → RowSeen
row_at rows s = get_or rows s no_row

-- what is collected after one more step, of server s or of none
abbrev pub kept_with : Option ℕ → Seen → Kept → Kept
kept_with None o k = record { window = k.window; rows = k.rows; idle = idle_after k.window o k.idle }
kept_with (Some s) o k =
    if ltb s (length k.rows) then record { window = k.window; rows = set k.rows s (row_after k.window o (row_at k.rows s)); idle = k.idle } else k

abbrev pub kept_after : Seen → Kept → Kept
kept_after o k = kept_with (server_of o.event) o k

-- what is collected after all steps, the newest first
abbrev pub kept_seen : Kept → List Seen → Kept
kept_seen first [] = first
kept_seen first (o ∷ seen) = kept_after o (kept_seen first seen)

-- what is collected before the first step
abbrev pub new_kept : Window → List Rate → Kept
new_kept w rates = record { window = w; rows = map new_row rates; idle = nothing_joined }

-- the ticks in which nobody runs, over all steps
abbrev pub idle_seen : Window → List Seen → Joined
idle_seen w [] = nothing_joined
idle_seen w (o ∷ seen) = if is_none (server_of o.event) then idle_after w o (idle_seen w seen) else idle_seen w seen

-- what a picture shows of a server with this reservation, from its steps, in a run that ends at this tick
pub record IsServerChart (w : Window) (r : Rate) (end : ℕ) (own : List Seen) (c : ServerChart) : Type 0 where
  pub spans : c.spans.items ≡ all_of (spans_until w (last_of own) None end (spans_seen w own))
  pub refused : c.refused.items ≡ all_of (refused_seen w own)
  pub refusals : c.refusals ≡ refusals_seen w own
  pub arrivals : c.arrivals.items ≡ arrivals_seen w own
  pub jobs : c.jobs.items ≡ all_jobs w (jobs_seen w own)
  pub completions : c.completions.items ≡ completions w c.jobs.items
  pub late : (t : ℕ) → w.from ≤ t → t < w.to → is_covered kind.Late t c.late.items ≡ list_any (λ job. takes t (late_stretch end job)) c.jobs.items
  pub deadlines : c.deadlines.items ≡ deadlines_until w r (last_of own) end (deadlines_seen w r own)
  pub course : record { opening = c.opening; corners = c.corners.items } ≡ course_until w r (last_of own) end (course_seen w r own)

-- the unit is one of job j of server s
abbrev pub is_unit_of : ℕ → ℕ → Ran → Bool
is_unit_of s j (unit.Unit k q) = eqb k s && eqb q j
is_unit_of s j (unit.Done c) = eqb c.server s && eqb c.seq j
is_unit_of s j _ = false

-- the step ran a unit of job j of server s
abbrev pub runs_unit_of : ℕ → ℕ → Event → Bool
runs_unit_of s j (event.Ran r) = is_unit_of s j r
runs_unit_of s j _ = false

-- the step took tick t
abbrev pub took : ℕ → Seen → Bool
took t o = leb (begun o) t && ltb t o.clock

-- the steps ran a unit of job j of server s in tick t
abbrev pub ran : ℕ → ℕ → ℕ → List Seen → Bool
ran s j t seen = list_any (λ o. runs_unit_of s j o.event && took t o) seen

-- the reservation of server s
abbrev pub rate_at : List Rate → ℕ → Rate
rate_at rates s = get_or rates s (record { budget = 0; period = 0 })

-- what a picture shows of servers with these reservations, from all steps
pub record IsChart (rates : List Rate) (end : ℕ) (seen : List Seen) (c : Chart) : Type 0 where
  pub idle : c.idle.items ≡ all_of (idle_seen c.window seen)
  pub count : length c.servers.items ≡ length rates
  pub each : (s : ℕ) (server : ServerChart) → slice_get c.servers.items s ≡ Some server
      → IsServerChart c.window (rate_at rates s) end (steps_of s seen) server
  -- a bar of server s with the number j covers tick t exactly if the steps ran a unit of its job j in tick t
  pub bars : (s j t : ℕ) (server : ServerChart) → slice_get c.servers.items s ≡ Some server → c.window.from ≤ t → t < c.window.to
      → is_covered (kind.Runs j) t server.spans.items ≡ ran s j t seen
  -- if the steps of server s took their ticks one after another, each tick is covered by what the server does in it, and by
  -- nothing else
  pub ticks : (s t : ℕ) (server : ServerChart) → slice_get c.servers.items s ≡ Some server → AreInTurn end (steps_of s seen)
      → c.window.from ≤ t → t < c.window.to → t < end → (k : Kind) → is_covered k t server.spans.items ≡ is_kind k (kind_at t (steps_of s seen))
  -- neighbouring units of one job are one bar
  pub apart : (s : ℕ) (server : ServerChart) → slice_get c.servers.items s ≡ Some server → AreApart server.spans.items

-- in a run that ends at this tick, the stretches cover a tick of the window exactly if a job is late in it
abbrev pub LateCovered : Window → ℕ → List ChartJob → List Stretch → Type 0
LateCovered w end jobs late =
    (t : ℕ) → w.from ≤ t → t < w.to → is_covered kind.Late t late ≡ list_any (λ job. takes t (late_stretch end job)) jobs

-- what a window shows of a server, from what was collected of it
pub record IsRowChart (w : Window) (end : ℕ) (row : RowSeen) (c : ServerChart) : Type 0 where
  pub spans : c.spans.items ≡ all_of (spans_until w row.last None end row.spans)
  pub refused : c.refused.items ≡ all_of row.refused
  pub refusals : c.refusals ≡ row.refusals
  pub arrivals : c.arrivals.items ≡ row.arrivals
  pub jobs : c.jobs.items ≡ all_jobs w row.jobs
  pub completions : c.completions.items ≡ completions w c.jobs.items
  pub late : LateCovered w end c.jobs.items c.late.items
  pub deadlines : c.deadlines.items ≡ deadlines_until w row.reservation row.last end row.deadlines
  pub course : record { opening = c.opening; corners = c.corners.items } ≡ course_until w row.reservation row.last end row.course
