-- The whole trace.
use Rattle.std.specs.Prelude.{ℕ, ◌+◌, ◌-◌, eqb, if◌then◌else◌, List, [], ◌∷◌, ◌++◌, codes, decimal, flat_map, get_or, length, map, string_bytes, Option, Some}
use Rattle.std.specs.Prelude.{None, ◌≡◌}
use Rattle.std.specs.List.{range_with_len}
use Rattle.cbsrun_chart.specs.declared.chart.ServerChart.{ServerChart}
use Rattle.cbsrun_chart.specs.declared.course.Corner.{Corner}
use Rattle.cbsrun_chart.specs.Hidden.{hidden_of, left_out_of}
use Rattle.cbsrun_chart.specs.declared.hidden.Hidden.{Hidden}
use Rattle.cbsrun_chart.specs.declared.hidden.LeftOut.{LeftOut}
use Rattle.cbsrun_chart.specs.Jobs.{job_numbered}
use Rattle.cbsrun_chart.specs.declared.jobs.ChartJob.{ChartJob}
use Rattle.cbsrun_chart.specs.declared.picture.Drawn.{Drawn}
use Rattle.cbsrun_window.specs.declared.stretch.Kind.{Kind}
use Rattle.cbsrun_window.specs.declared.stretch.Kind.TheVariants as kind
use Rattle.cbsrun_window.specs.declared.stretch.Stretch.{Stretch}
use Rattle.cbsrun_window.specs.Windows.{ends_tick, has_tick}
use Rattle.cbsrun_window.specs.declared.window.Window.{Window}
use Rattle.cbsrun_perfetto.specs.Events.{LineSeen, about_data, budget_line, came_args, event_text, finished_args, hidden_event, instant_line, job_args}
use Rattle.cbsrun_perfetto.specs.Events.{left_out_event, named_args, no_args, placed_args, slice_line}
use Rattle.cbsrun_perfetto.specs.Times.{tick_text}
use Rattle.cbsrun_time_texts.specs.Texts.{time_text}
use Rattle.std.specs.Ordering.{nat_cmp}
use Rattle.std.specs.List.Sorted.{IsPermutation, IsSortedByKey, IsStableByKey}
use Rattle.serde_json.specs.Written.{compact_text}
use Rattle.cbsrun_chart.specs.declared.picture.Picture.{Picture}
use Rattle.cbs_rate.specs.Rate.{Rate}
use Rattle.cbs_rules.specs.declared.mode.Mode.{Mode}
use Rattle.cbsrun_text.specs.Numbers.{mode_word}

-- a bar of job j, with what is known of the job
unfoldable pub bar_line : ℕ → List ChartJob → ℕ → Stretch → LineSeen
bar_line thread jobs j p =
    slice_line (codes "job " ++ decimal j) (codes "run") thread p.from p.to (job_args j (job_numbered j jobs))

-- ticks that are no bar, by what goes on in them
unfoldable pub other_line : ℕ → List ℕ → Stretch → LineSeen
other_line thread what p = slice_line what what thread p.from p.to no_args

-- the slice of a stretch, if it has one: a bar, charged ticks, or ticks in which the server has a job, and waits or is
-- throttled
abbrev pub slice_of : ℕ → List ChartJob → Kind → Stretch → List LineSeen
slice_of thread jobs (kind.Runs j) p = bar_line thread jobs j p ∷ []
slice_of thread jobs kind.Charged p = other_line thread (codes "charged") p ∷ []
slice_of thread jobs kind.Throttled p = other_line thread (codes "throttled") p ∷ []
slice_of thread jobs kind.Waits p = other_line thread (codes "waits") p ∷ []
slice_of thread jobs _ p = []

-- the slices of all stretches
unfoldable pub slices_of : ℕ → ServerChart → List LineSeen
slices_of thread c = flat_map (λ p. slice_of thread c.jobs.items p.kind p) c.spans.items

-- by how many ticks a job that took so many was late, or 0 if it was not
abbrev pub late_by : Option ℕ → ℕ → ℕ
late_by None took = 0
late_by (Some within) took = took - within

-- the end of a job that took this many ticks, and was late by this many
unfoldable pub end_line : ℕ → ChartJob → ℕ → ℕ → ℕ → LineSeen
end_line thread job tick took late =
    instant_line (codes "job " ++ decimal job.number ++ codes " finished" ++ (if eqb late 0 then [] else codes ", late"))
    (if eqb late 0 then codes "completion" else codes "late") thread tick (finished_args took late)

-- the end of a job, if the job was finished in the window
abbrev pub end_at : Window → ℕ → ChartJob → Option ℕ → List LineSeen
end_at w thread job None = []
end_at w thread job (Some finish) =
    if ends_tick w finish
    then end_line thread job finish (finish - job.came) (late_by job.within (finish - job.came)) ∷ []
    else []

unfoldable pub ends_of : Window → ℕ → List ChartJob → List LineSeen
ends_of w thread jobs = flat_map (λ job. end_at w thread job job.finish) jobs

-- a tick in which a release is refused
unfoldable pub refused_line : ℕ → ℕ → LineSeen
refused_line thread tick = instant_line (codes "refused") (codes "refused") thread tick no_args

-- the refused releases of each tick of a stretch
unfoldable pub refusals_in : ℕ → Stretch → List LineSeen
refusals_in thread p = map (λ k. refused_line thread (p.from + k)) (range_with_len 0 (p.to - p.from))

unfoldable pub refusals_of : ℕ → List Stretch → List LineSeen
refusals_of thread ps = flat_map (refusals_in thread) ps

-- the arrival of a job
unfoldable pub arrival_line : ℕ → ChartJob → LineSeen
arrival_line thread job =
    instant_line (codes "job " ++ decimal job.number ++ codes " comes") (codes "arrival") thread job.came (came_args job)

-- the arrival of a job, if the job came in the window
abbrev pub arrival_in : Window → ℕ → ChartJob → List LineSeen
arrival_in w thread job = if has_tick w job.came then arrival_line thread job ∷ [] else []

unfoldable pub arrivals_of : Window → ℕ → List ChartJob → List LineSeen
arrivals_of w thread jobs = flat_map (arrival_in w thread) jobs

-- a deadline of the server
unfoldable pub deadline_line : ℕ → ℕ → LineSeen
deadline_line thread tick = instant_line (codes "deadline") (codes "deadline") thread tick no_args

unfoldable pub deadlines_of : ℕ → List ℕ → List LineSeen
deadlines_of thread ts = map (deadline_line thread) ts

-- the budget before corner i of its course
abbrev pub budget_before : ℕ → List Corner → ℕ → ℕ
budget_before opening corners i = if eqb i 0 then opening else (get_or corners (i - 1) (record { tick = 0; budget = 0 })).budget

-- the budget from a corner on, if it differs from the budget before
abbrev pub change_between : List ℕ → ℕ → ℕ → Corner → List LineSeen
change_between name thread before corner = if eqb corner.budget before then [] else budget_line name thread corner.tick corner.budget ∷ []

abbrev pub change_at : List ℕ → ℕ → ℕ → List Corner → ℕ → List LineSeen
change_at name thread opening corners i =
    change_between name thread (budget_before opening corners i) (get_or corners i (record { tick = 0; budget = 0 }))

-- each change of a budget in its course
unfoldable pub changes_of : List ℕ → ℕ → ℕ → List Corner → List LineSeen
changes_of name thread opening corners = flat_map (change_at name thread opening corners) (range_with_len 0 (length corners))

unfoldable pub budgets_of : Window → List ℕ → ℕ → ServerChart → List LineSeen
budgets_of w name thread c = budget_line name thread w.from c.opening ∷ [] ++ changes_of name thread c.opening c.corners.items

-- all events of a server
unfoldable pub events_of : Window → ℕ → Drawn → List LineSeen
events_of w thread d =
    slices_of thread d.chart ++ ends_of w thread d.chart.jobs.items ++ refusals_of thread d.chart.refused.items
    ++ arrivals_of w thread d.chart.jobs.items ++ deadlines_of thread d.chart.deadlines.items ++ budgets_of w (string_bytes d.name) thread d.chart

-- what f gives for each server, by numbers from n on, in order
abbrev pub numbered : {X : Type 0} → (ℕ → Drawn → List X) → ℕ → List Drawn → List X
numbered f n [] = []
numbered f n (d ∷ ds) = f n d ++ numbered f (n + 1) ds

-- the events of all servers that are drawn: the first is thread 1, the next one thread 2, and so on
unfoldable pub all_events : Window → List Drawn → List LineSeen
all_events w servers = numbered (events_of w) 1 servers

-- the tick of an event
abbrev pub tick_of : LineSeen → ℕ
tick_of line = line.tick

-- the same events, sorted by their ticks. Events of the same tick keep their order
pub record AreInOrder (events ordered : List LineSeen) : Type 0 where
  pub same : IsPermutation events ordered
  pub rising : IsSortedByKey tick_of nat_cmp ordered
  pub stable : IsStableByKey tick_of nat_cmp events ordered

-- a line after another one
abbrev pub next_text : List ℕ → List ℕ
next_text text = codes ",\n" ++ text

-- the title of a server: its name, reservation and mode
unfoldable pub title_text : Option ℕ → List ℕ → Rate → Mode → List ℕ
title_text n name r mode = name ++ codes ", " ++ time_text n r.budget ++ codes " in every " ++ time_text n r.period ++ codes ", " ++ mode_word mode

-- the description of a server: its title, and its place
unfoldable pub server_text : Option ℕ → ℕ → Drawn → List ℕ
server_text n place d =
    next_text (compact_text (about_data (codes "thread_name") (place + 1) (named_args (title_text n (string_bytes d.name) d.reservation d.mode))))
    ++ next_text (compact_text (about_data (codes "thread_sort_index") (place + 1) (placed_args place)))

-- the descriptions of all servers
unfoldable pub servers_text : Option ℕ → List Drawn → List ℕ
servers_text n servers = numbered (server_text n) 0 servers

-- how many ticks of the run are not shown, if there are any
abbrev pub hidden_line : Option ℕ → ℕ → Option Hidden → List ℕ
hidden_line n tick None = []
hidden_line n tick (Some h) = next_text (event_text n (hidden_event tick h))

-- how many servers are not drawn, if there are any
abbrev pub left_out_line : Option ℕ → ℕ → Option LeftOut → List ℕ
left_out_line n tick None = []
left_out_line n tick (Some o) = next_text (event_text n (left_out_event tick o))

-- all events, each on a line of its own, by the nanoseconds of a tick
unfoldable pub lines_text : Option ℕ → List LineSeen → List ℕ
lines_text n lines = flat_map (λ line. next_text (event_text n line)) lines

-- the event that gives the name of the file
unfoldable pub process_text : List ℕ → List ℕ
process_text file = compact_text (about_data (codes "process_name") 0 (named_args file))

-- the text before the events, around how long a tick is
abbrev pub opening : Option ℕ → List ℕ
opening n = codes "{\"displayTimeUnit\":\"ns\",\"otherData\":{\"unit\":\"a tick is " ++ tick_text n ++ codes "\"},\"traceEvents\":[\n"

-- the opening of the document, with the name of the file
unfoldable pub opening_text : Option ℕ → List ℕ → List ℕ
opening_text n file = opening n ++ process_text file

-- a trace with these events, in this order. Its times are in microseconds
unfoldable pub trace_text : Picture → List LineSeen → List ℕ
trace_text p ordered =
    opening_text p.tick (string_bytes p.file) ++ servers_text p.tick p.servers.items ++ hidden_line p.tick p.window.from (hidden_of p.window p.end)
    ++ left_out_line p.tick p.window.from (left_out_of p.others) ++ lines_text p.tick ordered ++ codes "\n]}\n"

-- the text is the trace of the picture: exactly the events of its servers, in order
pub record IsTrace (p : Picture) (text : List ℕ) : Type 0 where
  pub ordered : List LineSeen
  pub order : AreInOrder (all_events p.window p.servers.items) ordered
  pub bytes : text ≡ trace_text p ordered
