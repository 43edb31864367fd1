-- The text about a file with no fault.
use Rattle.std.specs.Prelude.{ℕ, Bool, eqb, ltb, if◌then◌else◌, List, [], ◌++◌, codes, decimal, ◌≡◌, ◌+◌, ◌*◌, length, map, Option, Some, None, IfSome}
use Rattle.std.specs.List.{list_any, range_with_len}
use Rattle.cbsrun_loads.specs.Loads.{LoadFile}
use Rattle.cbsrun_simulate.specs.declared.terms.SourceTerms.{SourceTerms}
use Rattle.cbsrun_sizing.specs.Lateness.{greatest_delay, BoundsLateness}
use Rattle.cbsrun_sizing.specs.Recoveries.{free, recovery, IsMadeUpWithin}
use Rattle.cbs_rate.specs.Plan.{Planned, common_multiple}
use Rattle.cbs_rate.specs.Rate.{Rate}
use Rattle.cbs_rules.specs.declared.mode.Mode.{Mode}
use Rattle.cbsrun_sizing.specs.Budgets.{AreGreatest, left_over, reserved}
use Rattle.cbsrun_sizing.specs.ServerLoads.{AreServerLoads}
use Rattle.cbsrun_sizing.specs.declared.server_load.ServerLoad.{ServerLoad}
use Rattle.cbsrun_text.specs.Columns.{columns_text}
use Rattle.cbsrun_time_texts.specs.Texts.{ticks_text, time_text}
use Rattle.cbsrun_check_text.specs.Fractions.{fraction_text}
use Rattle.cbsrun_check_text.specs.Notes.{notes_text, set_off}
use Rattle.cbsrun_check_text.specs.Tables.{servers_table, sources_text}

-- a number of ticks in a sentence, in which one is no more than one
abbrev pub count_text : Option ℕ → ℕ → List ℕ
count_text None n = if eqb n 1 then codes "1 tick" else ticks_text None n
count_text (Some tick) n = ticks_text (Some tick) n

-- overruns can make servers late by at most this many ticks
unfoldable pub late_by_text : Option ℕ → ℕ → List ℕ
late_by_text tick n =
    if eqb n 0 then codes "Overruns make no server late.\n"
    else codes "Units that overrun make a server late by at most " ++ count_text tick n ++ codes ".\n"

-- units of a source may overrun
abbrev pub is_overrunning : List SourceTerms → Bool
is_overrunning sources = list_any (λ t. ltb 0 t.overrun.greatest) sources

-- a great number of ticks: in milliseconds, if the nanoseconds of a tick are known and there are fewer than 2^64 ticks
abbrev pub great_text : Option ℕ → ℕ → List ℕ
great_text tick n = if ltb n 18446744073709551616 then ticks_text tick n else decimal n ++ codes " ticks"

-- what one unit overruns is made up within this many ticks, by what is free
unfoldable pub made_up_text : Option ℕ → List Rate → ℕ → List ℕ
made_up_text tick rates n =
    codes "What one unit overruns is made up within " ++ great_text tick n ++ codes ", since " ++ fraction_text (free rates) (common_multiple rates)
    ++ codes " of the time is free.\n"

-- within how many ticks what one unit overruns is made up, or that it may never be
abbrev pub recovery_text : LoadFile → List ℕ
recovery_text f = elim (recovery f) [
  | None ↦ codes "Every tick is reserved, so what a unit overruns may never be made up.\n"
  | Some n ↦ made_up_text f.tick f.plan.rates n
]

-- an empty line, how late servers can be, and how soon that is made up, if units of a source may overrun
abbrev pub lateness_text : LoadFile → List ℕ
lateness_text f =
    if is_overrunning f.sources
    then codes "\n" ++ late_by_text f.tick (greatest_delay f) ++ (if eqb (greatest_delay f) 0 then [] else recovery_text f)
    else []

-- the first line: that the servers fit, what share of the time they have reserved, and what share is left under the
-- bound
unfoldable pub fits_text : Planned → List ℕ
fits_text plan =
    codes "fits: " ++ fraction_text (reserved plan.rates) (common_multiple plan.rates) ++ codes " of the time is reserved, "
    ++ fraction_text (left_over plan) (plan.bound.den * common_multiple plan.rates) ++ codes " is left under the bound " ++ decimal plan.bound.num
    ++ codes "/" ++ decimal plan.bound.den ++ codes "\n"

-- after how many ticks all periods begin together again
abbrev pub every_text : ℕ → List ℕ
every_text ticks =
    if eqb ticks 1 then codes "The periods come together every tick.\n"
    else codes "The periods come together every " ++ decimal ticks ++ codes " ticks.\n"

-- how long a tick is
unfoldable pub tick_text : Option ℕ → List ℕ
tick_text tick = codes ". A tick is " ++ time_text tick 1 ++ codes ".\n"

-- the same in milliseconds, and how long a tick is
unfoldable pub together_text : Option ℕ → ℕ → List ℕ
together_text tick ticks = codes "The periods come together every " ++ time_text tick ticks ++ tick_text tick

-- in milliseconds, if the nanoseconds of a tick are known
abbrev pub periods_text : Option ℕ → ℕ → List ℕ
periods_text None ticks = every_text ticks
periods_text (Some tick) ticks = together_text (Some tick) ticks

-- the text about servers with these names, modes, rates and greatest budgets
unfoldable pub plan_text : Option ℕ → List (List ℕ) → List Mode → Planned → List ℕ → List ℕ
plan_text tick names modes plan budgets =
    fits_text plan ++ codes "\n" ++ columns_text (servers_table tick names modes plan.rates budgets) ++ codes "\n"
    ++ periods_text tick (common_multiple plan.rates)

-- the text about a load, by the greatest budgets of its servers and the figures of their sources
abbrev pub load_text : LoadFile → List ℕ → List ServerLoad → List ℕ
load_text f budgets loads =
    plan_text f.tick f.names f.modes f.plan budgets ++ sources_text f.tick f.names f.plan.rates loads f.sources ++ lateness_text f
    ++ set_off (notes_text f loads)

-- the names of servers that have no names of their own: each begins so, and ends with the number of the server
abbrev pub numbered : List ℕ → ℕ → List (List ℕ)
numbered front n = map (λ s. front ++ decimal s) (range_with_len 0 n)

-- what is reserved and what is left make up the bound
abbrev pub IsSplit : Planned → Type 0
IsSplit plan = plan.bound.den * reserved plan.rates + left_over plan ≡ plan.bound.num * common_multiple plan.rates

-- the text about servers with these names, with the greatest budget of each
pub record IsPlanText (tick : Option ℕ) (names : List (List ℕ)) (modes : List Mode) (plan : Planned) (text : List ℕ) : Type 0 where
  pub budgets : List ℕ
  pub greatest : AreGreatest plan (length plan.rates) budgets
  pub split : IsSplit plan
  pub text_is : text ≡ plan_text tick names modes plan budgets

-- the text about a load, with the greatest budget of each server, the demand of its sources, and what is promised for
-- them. No server is ever later than the text says, and what one unit overruns is made up as soon as it says
pub record IsLoadText (f : LoadFile) (text : List ℕ) : Type 0 where
  pub budgets : List ℕ
  pub loads : List ServerLoad
  pub greatest : AreGreatest f.plan (length f.plan.rates) budgets
  pub told : AreServerLoads f (length f.plan.rates) loads
  pub split : IsSplit f.plan
  pub late : BoundsLateness f (greatest_delay f)
  pub made_up : IfSome (recovery f) (IsMadeUpWithin f)
  pub text_is : text ≡ load_text f budgets loads
