-- The tables of a report, as cells.
use Rattle.std.specs.Prelude.{ℕ, ◌*◌, Bool, ◌&&◌, eqb, ltb, not, if◌then◌else◌, List, [], ◌∷◌, ◌++◌, codes, decimal, map, Option, Some, None, string_bytes}
use Rattle.cbsrun_text.specs.Columns.{CellText, plain, marked_if}
use Rattle.cbsrun_time_texts.specs.Texts.{amount_text, time_text}
use Rattle.cbsrun_figures.specs.declared.figures.Figures.{Figures}
use Rattle.cbsrun_figures.specs.declared.figures.Ranks.{Ranks}
use Rattle.cbsrun_simulate.specs.Bounds.{Bounds}
use Rattle.cbsrun_report_text.specs.Numbers.{percent_text, great_text, mean_time_text}
use Rattle.cbsrun_report_text.specs.Reports.{released, late, is_in_time, sum_of}
use Rattle.cbsrun_report_text.specs.declared.report.RunReport.{RunReport}
use Rattle.cbsrun_report_text.specs.declared.report.ServerReport.{ServerReport}

-- the number of jobs that are late, if a time is wanted
abbrev pub late_cell : Figures → Option Bounds → CellText
late_cell f None = plain (codes "-")
late_cell f (Some within) = marked_if (ltb 0 (late f)) (decimal (late f))

-- a row of the table JOBS: how many jobs of the server came, were refused, are finished, and are late
abbrev pub jobs_row : ℕ → ServerReport → List CellText
jobs_row backlog s =
    plain (string_bytes s.name) ∷ plain (decimal (released s.figures)) ∷ marked_if (ltb 0 s.figures.refused) (decimal s.figures.refused)
    ∷ plain (decimal s.figures.finished) ∷ plain (decimal s.figures.unfinished) ∷ late_cell s.figures s.within
    ∷ plain (decimal s.figures.greatest_backlog ++ codes " of " ++ decimal backlog) ∷ []

abbrev pub jobs_heading : List CellText
jobs_heading = map plain (codes "JOBS" ∷ codes "released" ∷ codes "refused" ∷ codes "finished" ∷ codes "unfinished" ∷ codes "late" ∷ codes "backlog" ∷ [])

abbrev pub jobs_total : List ServerReport → List CellText
jobs_total servers =
    plain (codes "all") ∷ plain (decimal (sum_of released servers)) ∷ plain (decimal (sum_of (λ f. f.refused) servers))
    ∷ plain (decimal (sum_of (λ f. f.finished) servers)) ∷ plain (decimal (sum_of (λ f. f.unfinished) servers))
    ∷ plain (decimal (sum_of late servers)) ∷ []

unfoldable pub jobs_table : RunReport → List (List CellText)
jobs_table r = jobs_heading ∷ map (jobs_row r.backlog) r.servers.items ++ jobs_total r.servers.items ∷ []

-- a reservation: the budget in the period. Times are in milliseconds, if the nanoseconds of a tick are known
abbrev pub reservation_text : Option ℕ → ServerReport → List ℕ
reservation_text tick s = time_text tick s.reservation.budget ++ codes " in " ++ time_text tick s.reservation.period

-- a server was asked for more than its share of the time, and a job of it is late or was refused
abbrev pub is_asked_too_much : ℕ → ServerReport → Bool
is_asked_too_much clock s = not (is_in_time s.figures) && ltb (s.reservation.budget * clock) (s.figures.asked * s.reservation.period)

-- a row of the table TICKS: what the server has, was asked for, and ran
abbrev pub ticks_row : Option ℕ → ℕ → ServerReport → List CellText
ticks_row tick clock s =
    plain (string_bytes s.name) ∷ plain (reservation_text tick s) ∷ plain (percent_text s.reservation.budget s.reservation.period)
    ∷ marked_if (is_asked_too_much clock s) (percent_text s.figures.asked clock) ∷ plain (percent_text s.figures.run clock)
    ∷ plain (decimal s.figures.run) ∷ plain (decimal s.figures.used_up) ∷ plain (decimal s.figures.throttled) ∷ []

abbrev pub ticks_heading : List CellText
ticks_heading = map plain (codes "TICKS" ∷ codes "budget" ∷ codes "reserved" ∷ codes "asked" ∷ codes "got" ∷ codes "run" ∷ codes "used up" ∷
    codes "throttled" ∷ [])

abbrev pub ticks_total : RunReport → List CellText
ticks_total r =
    plain (codes "all") ∷ plain [] ∷ plain (percent_text r.reserved.ticks r.reserved.of)
    ∷ plain (percent_text (sum_of (λ f. f.asked) r.servers.items) r.clock) ∷ plain (percent_text (sum_of (λ f. f.run) r.servers.items) r.clock)
    ∷ plain (decimal (sum_of (λ f. f.run) r.servers.items)) ∷ plain (decimal (sum_of (λ f. f.used_up) r.servers.items))
    ∷ plain (decimal (sum_of (λ f. f.throttled) r.servers.items)) ∷ []

unfoldable pub ticks_table : RunReport → List (List CellText)
ticks_table r = ticks_heading ∷ map (ticks_row r.tick r.clock) r.servers.items ++ ticks_total r ∷ []

-- the ticks within which the jobs of a server are wanted: one number, or the least and the greatest if its sources
-- differ
abbrev pub within_text : Option ℕ → Option Bounds → List ℕ
within_text tick None = codes "-"
within_text tick (Some b) =
    if eqb b.least b.greatest then time_text tick b.least else amount_text tick b.least ++ codes ".." ++ time_text tick b.greatest

-- the cells of the response times. The greatest is marked if a job is late
abbrev pub rank_cells : Option ℕ → Figures → Option Ranks → List CellText
rank_cells tick f None = map plain (codes "-" ∷ codes "-" ∷ codes "-" ∷ codes "-" ∷ codes "-" ∷ codes "-" ∷ [])
rank_cells tick f (Some r) =
    plain (time_text tick r.least) ∷ plain (mean_time_text tick f.response_total f.finished) ∷ plain (time_text tick r.median)
    ∷ plain (time_text tick r.p95) ∷ plain (time_text tick r.p99) ∷ marked_if (ltb 0 (late f)) (time_text tick r.greatest) ∷ []

-- a row of the table RESPONSE: how long the server's jobs took
abbrev pub response_row : Option ℕ → ServerReport → List CellText
response_row tick s =
    plain (string_bytes s.name) ∷ rank_cells tick s.figures s.figures.responses ++ plain (within_text tick s.within) ∷ []

abbrev pub response_heading : List CellText
response_heading = map plain (codes "RESPONSE" ∷ codes "least" ∷ codes "mean" ∷ codes "median" ∷ codes "95 %" ∷ codes "99 %" ∷ codes "greatest" ∷
    codes "within" ∷ [])

unfoldable pub response_table : Option ℕ → List ServerReport → List (List CellText)
response_table tick servers = response_heading ∷ map (response_row tick) servers

-- a number of ticks, or - if there is none
abbrev pub early_text : Option ℕ → Option ℕ → List ℕ
early_text tick None = codes "-"
early_text tick (Some ticks) = great_text tick ticks

-- a row of the table EARLY: how many ticks earlier than promised the server's jobs were finished
abbrev pub early_row : Option ℕ → ServerReport → List CellText
early_row tick s =
    plain (string_bytes s.name) ∷ plain (early_text tick s.figures.early_least)
    ∷ plain (mean_time_text tick s.figures.early_total s.figures.early_count) ∷ []

abbrev pub early_heading : List CellText
early_heading = map plain (codes "EARLY" ∷ codes "least" ∷ codes "mean" ∷ [])

unfoldable pub early_table : Option ℕ → List ServerReport → List (List CellText)
early_table tick servers = early_heading ∷ map (early_row tick) servers

-- a row of the table CHARGES: what the server was charged
abbrev pub charges_row : ServerReport → List CellText
charges_row s = plain (string_bytes s.name) ∷ plain (decimal s.figures.charged) ∷ plain (decimal s.figures.greatest_charge) ∷ []

abbrev pub charges_heading : List CellText
charges_heading = map plain (codes "CHARGES" ∷ codes "ticks" ∷ codes "greatest" ∷ [])

abbrev pub charges_total : List ServerReport → List CellText
charges_total servers = plain (codes "all") ∷ plain (decimal (sum_of (λ f. f.charged) servers)) ∷ []

unfoldable pub charges_table : List ServerReport → List (List CellText)
charges_table servers = charges_heading ∷ map charges_row servers ++ charges_total servers ∷ []
