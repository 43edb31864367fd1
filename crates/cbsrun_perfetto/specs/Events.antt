-- The events of a trace.
use Rattle.std.specs.Prelude.{ℕ, ◌-◌, List, [], ◌∷◌, ◌++◌, codes, decimal, Option, Some, None}
use Rattle.serde_json.specs.Data.{Data, string, object, no_members}
use Rattle.serde_json.specs.Written.{compact_text}
use Rattle.cbsrun_chart.specs.Hidden.{hidden_text, left_out_text}
use Rattle.cbsrun_chart.specs.declared.hidden.Hidden.{Hidden}
use Rattle.cbsrun_chart.specs.declared.hidden.LeftOut.{LeftOut}
use Rattle.cbsrun_chart.specs.declared.jobs.ChartJob.{ChartJob}
use Rattle.cbsrun_json.specs.Members.{long_if, object_of, whole, whole_if}
use Rattle.cbsrun_perfetto.specs.Times.{microseconds_text}

-- a line of a trace: an event, with its tick, and how many ticks it goes on, if it does. Its other members stand before
-- these times, and between them
pub record LineSeen : Type 0 where
  pub tick : ℕ
  pub lasts : Option ℕ
  pub before : List ℕ
  pub between : List ℕ

-- an event before its times: its arguments and its category
unfoldable pub before_text : List ℕ → Data → List ℕ
before_text cat args = codes "{\"args\":" ++ compact_text args ++ codes ",\"cat\":" ++ compact_text (string cat)

-- an event between its times: its name, phase and scope, and its thread
unfoldable pub between_text : List ℕ → List ℕ → List ℕ → ℕ → List ℕ
between_text name phase scope thread =
    codes ",\"name\":" ++ compact_text (string name) ++ codes ",\"ph\":\"" ++ phase ++ codes "\",\"pid\":1" ++ scope
    ++ codes ",\"tid\":" ++ decimal thread

-- how long an event goes on, if it does
abbrev pub duration_text : Option ℕ → Option ℕ → List ℕ
duration_text n None = []
duration_text n (Some ticks) = codes ",\"dur\":" ++ microseconds_text n ticks

-- the event of a line, with its times in microseconds, by the nanoseconds of a tick
unfoldable pub event_text : Option ℕ → LineSeen → List ℕ
event_text n line =
    line.before ++ duration_text n line.lasts ++ line.between ++ codes ",\"ts\":" ++ microseconds_text n line.tick ++ codes "}"

-- something that goes on from one tick up to another, on a thread
unfoldable pub slice_line : List ℕ → List ℕ → ℕ → ℕ → ℕ → Data → LineSeen
slice_line name cat thread from to args =
    record { tick = from; lasts = Some (to - from); before = before_text cat args; between = between_text name (codes "X") [] thread }

-- something that happens at a tick, on a thread
unfoldable pub instant_line : List ℕ → List ℕ → ℕ → ℕ → Data → LineSeen
instant_line name cat thread tick args = record {
  tick = tick;
  lasts = None;
  before = before_text cat args;
  between = between_text name (codes "i") (codes ",\"s\":\"t\"") thread;
}

-- something that is not shown: it is of the whole process
unfoldable pub unseen_line : List ℕ → ℕ → Data → LineSeen
unseen_line name tick args = record {
  tick = tick;
  lasts = None;
  before = before_text (codes "hidden") args;
  between = between_text name (codes "i") (codes ",\"s\":\"p\"") 1;
}

-- the arguments of ticks that are not shown: how many are before and after
unfoldable pub hidden_args : Hidden → Data
hidden_args h = object_of ((codes "before", whole h.before) ∷ (codes "after", whole h.after) ∷ [])

-- ticks that are not shown, told at the first tick that is
abbrev pub hidden_event : ℕ → Hidden → LineSeen
hidden_event tick h = unseen_line (hidden_text h) tick (hidden_args h)

-- the arguments of servers that are not drawn: how many they are
unfoldable pub left_out_args : LeftOut → Data
left_out_args o = object_of ((codes "servers", whole o.servers) ∷ [])

-- servers that are not drawn, told at the first tick that is shown
abbrev pub left_out_event : ℕ → LeftOut → LineSeen
left_out_event tick o = unseen_line (left_out_text o) tick (left_out_args o)

-- the arguments that give a budget
unfoldable pub budget_args : ℕ → Data
budget_args budget = object_of ((codes "c", whole budget) ∷ [])

-- a budget that holds from a tick on
unfoldable pub budget_line : List ℕ → ℕ → ℕ → ℕ → LineSeen
budget_line name thread tick budget = record {
  tick = tick;
  lasts = None;
  before = before_text (codes "budget") (budget_args budget);
  between = between_text (codes "budget of " ++ name) (codes "C") [] thread;
}

-- the event that describes a thread: by a name, by the name of the whole process, or by its place
unfoldable pub about_data : List ℕ → ℕ → Data → Data
about_data what thread args = object_of (
    (codes "ph", string (codes "M"))
    ∷ (codes "pid", whole 1)
    ∷ (codes "tid", whole thread)
    ∷ (codes "ts", whole 0)
    ∷ (codes "name", string what)
    ∷ (codes "args", args)
    ∷ [])

unfoldable pub named_args : List ℕ → Data
named_args name = object_of ((codes "name", string name) ∷ [])

unfoldable pub placed_args : ℕ → Data
placed_args place = object_of ((codes "sort_index", whole place) ∷ [])

-- empty arguments
abbrev pub no_args : Data
no_args = object no_members

-- the arguments of a bar: the number of its job, and what is known of the job
unfoldable pub job_args : ℕ → Option ChartJob → Data
job_args j None = object_of ((codes "job", whole j) ∷ [])
job_args j (Some job) = object_of (
    (codes "job", whole j)
    ∷ (codes "arrival", whole job.came)
    ∷ (codes "units", whole job.units)
    ∷ (codes "within", whole_if job.within)
    ∷ (codes "promised", long_if job.promised)
    ∷ (codes "finish", whole_if job.finish)
    ∷ [])

-- the arguments of the arrival of a job
unfoldable pub came_args : ChartJob → Data
came_args job = object_of ((codes "units", whole job.units) ∷ [])

-- the arguments of the end of a job: how many ticks it took, and how many ticks late it was
unfoldable pub finished_args : ℕ → ℕ → Data
finished_args took late = object_of ((codes "response", whole took) ∷ (codes "late", whole late) ∷ [])
