-- The tables of servers and of sources.
use Rattle.std.specs.Prelude.{ℕ, List, [], ◌∷◌, ◌++◌, codes, get_or, length, map, ◌*◌, Bool, eqb, ltb, if◌then◌else◌, Option, Some, None, Result, Ok, Err, ◌+◌}
use Rattle.std.specs.List.{range_with_len}
use Rattle.cbs_rate.specs.Plan.{common_multiple}
use Rattle.cbs_rate.specs.Rate.{Rate}
use Rattle.cbs_guarantee.specs.Parts.{rate_at}
use Rattle.cbs_guarantee.specs.declared.source.NotPromised.{NotPromised}
use Rattle.cbs_rules.specs.declared.mode.Mode.{Mode}
use Rattle.cbs_rules.specs.declared.mode.Mode.TheVariants.{Soft}
use Rattle.cbsrun_sizing.specs.Budgets.{reserved, is_within}
use Rattle.cbsrun_text.specs.Columns.{CellText, plain, columns_text, marked_if}
use Rattle.cbsrun_text.specs.Numbers.{mode_word}
use Rattle.cbsrun_time_texts.specs.Texts.{amount_text, time_text}
use Rattle.cbsrun_check_text.specs.Cells.{range_amount}
use Rattle.cbsrun_check_text.specs.Fractions.{fraction_text, percent_text}
use Rattle.cbsrun_simulate.specs.Bounds.{Bounds}
use Rattle.cbsrun_simulate.specs.Released.{distance, is_single}
use Rattle.cbsrun_simulate.specs.declared.terms.SourceTerms.{SourceTerms}
use Rattle.cbsrun_sizing.specs.ServerLoads.{no_load}
use Rattle.cbsrun_sizing.specs.declared.server_load.ServerLoad.{ServerLoad}

-- the name and the mode of server s
abbrev pub name_at : List (List ℕ) → ℕ → List ℕ
name_at names s = get_or names s []

abbrev pub mode_at : List Mode → ℕ → Mode
mode_at modes s = get_or modes s Soft

-- the row of a server: what it has, and the greatest budget that it could have. Times are in milliseconds, if the
-- nanoseconds of a tick are known
abbrev pub server_row : Option ℕ → List ℕ → Mode → Rate → ℕ → List CellText
server_row tick name mode rate greatest =
    plain name ∷ plain (mode_word mode) ∷ plain (time_text tick rate.budget) ∷ plain (time_text tick rate.period) ∷ plain (fraction_text rate.budget rate.period)
    ∷ plain (percent_text rate.budget rate.period) ∷ plain (time_text tick greatest) ∷ []

abbrev pub servers_heading : List CellText
servers_heading =
    plain (codes "SERVER") ∷ plain (codes "mode") ∷ plain (codes "budget") ∷ plain (codes "period") ∷ plain (codes "share") ∷ plain []
    ∷ plain (codes "greatest budget") ∷ []

abbrev pub total_row : List Rate → List CellText
total_row rates =
    plain (codes "all") ∷ plain [] ∷ plain [] ∷ plain [] ∷ plain (fraction_text (reserved rates) (common_multiple rates))
    ∷ plain (percent_text (reserved rates) (common_multiple rates)) ∷ []

-- the row of server s
abbrev pub row_at : Option ℕ → List (List ℕ) → List Mode → List Rate → List ℕ → ℕ → List CellText
row_at tick names modes rates budgets s = server_row tick (name_at names s) (mode_at modes s) (rate_at rates s) (get_or budgets s 0)

-- the table SERVER: a row for each server, and one for all servers together
unfoldable pub servers_table : Option ℕ → List (List ℕ) → List Mode → List Rate → List ℕ → List (List CellText)
servers_table tick names modes rates budgets =
    servers_heading ∷ map (row_at tick names modes rates budgets) (range_with_len 0 (length rates)) ++ total_row rates ∷ []

-- a range of ticks; a range of one number is written as that number
abbrev pub range_text : Option ℕ → Bounds → List ℕ
range_text tick r =
    if eqb r.least r.greatest then time_text tick r.least else amount_text tick r.least ++ codes ".." ++ time_text tick r.greatest

-- the ticks from one job of a source to the next, and the jitter, if there is one
abbrev pub jittered_text : Option ℕ → SourceTerms → List ℕ
jittered_text tick t =
    if eqb t.jitter 0 then range_text tick t.every else range_amount tick t.every.least t.every.greatest ++ codes " +" ++ time_text tick t.jitter

-- the same, or - if it releases one job at most
abbrev pub every_text : Option ℕ → SourceTerms → List ℕ
every_text tick t = if is_single t.jobs then codes "-" else jittered_text tick t

-- a number of ticks, or - if there is none
abbrev pub optional_text : Option ℕ → Option ℕ → List ℕ
optional_text tick None = codes "-"
optional_text tick (Some ticks) = time_text tick ticks

-- within how many ticks each job is promised to be finished, and whether that is in time
abbrev pub promise_text : Option ℕ → ℕ → Bool → List ℕ
promise_text tick time in_time = (if in_time then codes "yes, by " else codes "no, by ") ++ time_text tick time

-- the same, if something is promised
abbrev pub in_time_text : Option ℕ → Result ℕ NotPromised → Option ℕ → List ℕ
in_time_text tick (Err why) within = codes "not promised"
in_time_text tick (Ok time) within = promise_text tick time (is_within time within)

-- the most ticks of a job: its units, and what they may overrun
abbrev pub greatest_job : SourceTerms → ℕ
greatest_job t = t.units.greatest * (1 + t.overrun.greatest)

-- the source may ask for more than the share of its server. It asks for the most ticks of a job in the least ticks to
-- the next, which may be fewer by the jitter
abbrev pub is_asking_too_much : Rate → SourceTerms → Bool
is_asking_too_much rate t = ltb (rate.budget * distance t) (greatest_job t * rate.period)

-- what a source may ask for: the greatest job in the least ticks to the next. A source of one job asks for it once
abbrev pub asks_cell : Option ℕ → Rate → SourceTerms → CellText
asks_cell tick rate t =
    if is_single t.jobs then plain (time_text tick (greatest_job t) ++ codes " once")
    else marked_if (is_asking_too_much rate t) (fraction_text (greatest_job t) (distance t))

-- the row of a source: what it may ask for, what its server has, and what is promised
abbrev pub source_row : Option ℕ → List ℕ → Rate → Result ℕ NotPromised → SourceTerms → List CellText
source_row tick name rate promised t =
    plain name ∷ plain (range_text tick t.units) ∷ plain (every_text tick t)
    ∷ asks_cell tick rate t ∷ plain (fraction_text rate.budget rate.period)
    ∷ plain (optional_text tick t.within) ∷ plain (in_time_text tick promised t.within) ∷ []

abbrev pub sources_heading : List CellText
sources_heading =
    plain (codes "SOURCE OF") ∷ plain (codes "units") ∷ plain (codes "every") ∷ plain (codes "asks") ∷ plain (codes "share") ∷ plain (codes "within")
    ∷ plain (codes "in time always") ∷ []

module _ (tick : Option ℕ) (names : List (List ℕ)) (rates : List Rate) (loads : List ServerLoad) where
  -- the row of a source
  abbrev pub row_of : SourceTerms → List CellText
  row_of t = source_row tick (name_at names t.server) (rate_at rates t.server) (get_or loads t.server no_load).promised t

  -- the table SOURCE OF: a row for each source
  abbrev pub sources_table : List SourceTerms → List (List CellText)
  sources_table sources = sources_heading ∷ map row_of sources

  -- an empty line and the table, if there are sources
  abbrev pub sources_text : List SourceTerms → List ℕ
  sources_text [] = []
  sources_text (t ∷ sources) = codes "\n" ++ columns_text (sources_table (t ∷ sources))
