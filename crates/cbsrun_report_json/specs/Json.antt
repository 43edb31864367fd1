-- The whole report as JSON: its keys, and the figure of each key.
use Rattle.std.specs.Prelude.{ℕ, Bool, List, [], ◌∷◌, ◌++◌, codes, map, Option, Some, None, string_bytes}
use Rattle.cbsrun_report_text.specs.Reports.{released, is_in_time, sum_of}
use Rattle.cbsrun_figures.specs.declared.figures.Figures.{Figures}
use Rattle.cbsrun_report_json.specs.declared.sums.Sum.{Sum}
use Rattle.cbsrun_report_json.specs.declared.sums.Sum.TheVariants as sum
use Rattle.std.specs.List.{list_all}
use Rattle.serde_json.specs.Data.{Data, null, boolean, string, array, object, Items, Members, no_members}
use Rattle.serde_json.specs.View.{items_of}
use Rattle.serde_json.specs.Written.{compact_text}
use Rattle.cbsrun_text.specs.Numbers.{mode_word}
use Rattle.cbsrun_simulate.specs.Bounds.{Bounds}
use Rattle.cbsrun_json.specs.Members.{object_of, pair_data, told, whole, whole_if, with_members}
use Rattle.cbsrun_figures.specs.declared.figures.Ranks.{Ranks}
use Rattle.cbsrun_report_text.specs.declared.report.RunReport.{RunReport}
use Rattle.cbsrun_report_text.specs.declared.report.ServerReport.{ServerReport}
use Rattle.cbsrun_report_json.specs.declared.parts.Part.{Part}
use Rattle.cbsrun_report_json.specs.declared.parts.Part.TheVariants as part

abbrev pub figure_of : Sum → Figures → ℕ
figure_of sum.Released f = released f
figure_of sum.Refused f = f.refused
figure_of sum.Finished f = f.finished
figure_of sum.Unfinished f = f.unfinished
figure_of sum.LateFinished f = f.late_finished
figure_of sum.LateUnfinished f = f.late_unfinished
figure_of sum.Run f = f.run
figure_of sum.Charged f = f.charged

-- how many jobs of the servers came, were refused, are finished, and are late
unfoldable pub jobs_data : List ServerReport → Data
jobs_data servers = object_of (
    (codes "released", whole (told (sum_of released servers)))
    ∷ (codes "refused", whole (told (sum_of (λ f. f.refused) servers)))
    ∷ (codes "finished", whole (told (sum_of (λ f. f.finished) servers)))
    ∷ (codes "unfinished", whole (told (sum_of (λ f. f.unfinished) servers)))
    ∷ (codes "late_finished", whole (told (sum_of (λ f. f.late_finished) servers)))
    ∷ (codes "late_unfinished", whole (told (sum_of (λ f. f.late_unfinished) servers)))
    ∷ [])

-- within how many ticks jobs are to be finished
unfoldable pub within_data : Option Bounds → Data
within_data None = null
within_data (Some b) = object_of ((codes "least", whole b.least) ∷ (codes "greatest", whole b.greatest) ∷ [])

-- the units that were asked for, and those that ran
unfoldable pub units_data : Figures → Data
units_data f = object_of ((codes "asked", whole f.asked) ∷ (codes "run", whole f.run) ∷ [])

-- the response times of the finished jobs: the ticks from a job's arrival to its end
unfoldable pub ranks_data : Figures → Option Ranks → Data
ranks_data f None = null
ranks_data f (Some r) = object_of (
    (codes "least", whole r.least)
    ∷ (codes "mean", pair_data (told f.response_total) f.finished)
    ∷ (codes "median", whole r.median)
    ∷ (codes "p95", whole r.p95)
    ∷ (codes "p99", whole r.p99)
    ∷ (codes "greatest", whole r.greatest)
    ∷ [])

-- the ticks by which the finished jobs with a promise were earlier than promised
unfoldable pub early_data : Figures → Option ℕ → Data
early_data f None = null
early_data f (Some least) =
    object_of ((codes "least", whole (told least)) ∷ (codes "mean", pair_data (told f.early_total) f.early_count) ∷ [])

-- the ticks that were charged, and the greatest charge
unfoldable pub charges_data : Figures → Data
charges_data f = object_of ((codes "all", whole f.charged) ∷ (codes "greatest", whole f.greatest_charge) ∷ [])

-- how many ticks were run, idle and charged
unfoldable pub ticks_data : RunReport → Data
ticks_data r = object_of (
    (codes "run", whole (told (sum_of (λ f. f.run) r.servers.items)))
    ∷ (codes "idle", whole r.idle)
    ∷ (codes "charged", whole (told (sum_of (λ f. f.charged) r.servers.items)))
    ∷ [])

-- a part of what is told of a server or of a run
abbrev pub part_data : Part → Data
part_data (part.Jobs servers) = jobs_data servers.now
part_data (part.Within s) = within_data s.now.within
part_data (part.Units f) = units_data f.now
part_data (part.Ranks f) = ranks_data f.now f.now.responses
part_data (part.Early f) = early_data f.now f.now.early_least
part_data (part.Charges f) = charges_data f.now
part_data (part.Ticks r) = ticks_data r.now

-- the members that say what a server is
unfoldable pub server_terms : ServerReport → Members
server_terms s = with_members (
    (codes "name", string (string_bytes s.name))
    ∷ (codes "mode", string (mode_word s.mode))
    ∷ (codes "budget", whole s.reservation.budget)
    ∷ (codes "period", whole s.reservation.period)
    ∷ []) no_members

-- the members, with what was counted of a server
unfoldable pub with_counts : Figures → Members → Members
with_counts f ms = with_members (
    (codes "exhaustions", whole f.used_up)
    ∷ (codes "throttled_with_job_ticks", whole f.throttled)
    ∷ (codes "greatest_backlog", whole f.greatest_backlog)
    ∷ []) ms

-- the members, with what became of the jobs of a server, and of its time
unfoldable pub with_parts : ServerReport → Members → Members
with_parts s ms = with_members (
    (codes "jobs", jobs_data (s ∷ []))
    ∷ (codes "within_ticks", within_data s.within)
    ∷ (codes "response_ticks", ranks_data s.figures s.figures.responses)
    ∷ (codes "early_ticks", early_data s.figures s.figures.early_least)
    ∷ (codes "units", units_data s.figures)
    ∷ (codes "charged_ticks", charges_data s.figures)
    ∷ []) ms

-- the object of a server
unfoldable pub server_data : ServerReport → Data
server_data s = object (with_parts s (with_counts s.figures (server_terms s)))

-- the objects of the servers, in their order
abbrev pub servers_data : List ServerReport → Items
servers_data servers = items_of (map server_data servers)

-- no server has a job that is late or was refused
abbrev pub all_in_time : List ServerReport → Bool
all_in_time servers = list_all (λ s. is_in_time s.figures) servers

-- the members that say what a report is about
unfoldable pub report_terms : RunReport → Members
report_terms r = with_members (
    (codes "report", whole 1)
    ∷ (codes "file", string (string_bytes r.file))
    ∷ (codes "unit", string (codes "tick"))
    ∷ (codes "clock", whole r.clock)
    ∷ (codes "seed", whole_if r.seed)
    ∷ (codes "tick_nanoseconds", whole_if r.tick)
    ∷ (codes "backlog", whole r.backlog)
    ∷ []) no_members

-- the members, with the shares of the time
unfoldable pub with_shares : RunReport → Members → Members
with_shares r ms = with_members (
    (codes "ticks", ticks_data r)
    ∷ (codes "bound", pair_data r.bound.num r.bound.den)
    ∷ (codes "reserved", pair_data r.reserved.ticks r.reserved.of)
    ∷ []) ms

-- the members, with what is said of the servers
unfoldable pub with_servers : List ServerReport → Members → Members
with_servers servers ms = with_members (
    (codes "in_time", boolean (all_in_time servers))
    ∷ (codes "jobs", jobs_data servers)
    ∷ (codes "servers", array (servers_data servers))
    ∷ []) ms

-- the whole report
unfoldable pub report_data : RunReport → Data
report_data r = object (with_servers r.servers.items (with_shares r (report_terms r)))

-- the whole report as text: one line
abbrev pub report_json : RunReport → List ℕ
report_json r = compact_text (report_data r) ++ codes "\n"
