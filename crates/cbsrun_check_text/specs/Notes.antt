-- Notes on servers whose jobs are not promised in time: why, and what would do.
use Rattle.std.specs.Prelude.{ℕ, eqb, if◌then◌else◌, ◌≤◌, ◌<◌, List, [], ◌∷◌, ◌++◌, codes, decimal, flat_map, get_or, length, Option, Some, None, Result, Ok, Err}
use Rattle.std.specs.List.{range_with_len}
use Rattle.cbs_rate.specs.Limits.{greatest_common_multiple}
use Rattle.cbs_rate.specs.Rate.{Rate}
use Rattle.cbs_guarantee.specs.Parts.{rate_at}
use Rattle.cbs_guarantee.specs.declared.source.NotPromised.{NotPromised}
use Rattle.cbs_guarantee.specs.declared.source.NotPromised.TheVariants as why
use Rattle.cbsrun_loads.specs.Loads.{LoadFile}
use Rattle.cbsrun_remedy_texts.specs.Remedies.{remedy_text}
use Rattle.cbsrun_sizing.specs.ServerLoads.{least_within, no_load}
use Rattle.cbsrun_sizing.specs.declared.asked.Asked.{Asked}
use Rattle.cbsrun_sizing.specs.declared.server_load.ServerLoad.{ServerLoad}
use Rattle.cbsrun_time_texts.specs.Texts.{ticks_text}
use Rattle.cbsrun_check_text.specs.Fractions.{fraction_text}
use Rattle.cbsrun_check_text.specs.Tables.{name_at, optional_text}

-- the demand is a share of a span
pub record IsSummed (a : Asked) : Type 0 where
  pub some : 0 < a.of
  pub coarse : a.of ≤ greatest_common_multiple

-- jobs are finished within so many ticks, and within so many is wanted
unfoldable pub late_text : Option ℕ → ℕ → Option ℕ → List ℕ
late_text tick time within =
    codes "its jobs are finished within " ++ ticks_text tick time ++ codes ", and " ++ optional_text tick within ++ codes " is wanted"

-- so many jobs may be unfinished at once, and the backlog holds so many
unfoldable pub unfinished_text : ℕ → ℕ → List ℕ
unfinished_text needed backlog = decimal needed ++ codes " of its jobs may be unfinished at once, and the backlog is " ++ decimal backlog

-- why the jobs of a server are not promised in time: they are finished too late, or nothing is promised for a reason
abbrev pub why_text : Option ℕ → ℕ → Option ℕ → Result ℕ NotPromised → List ℕ
why_text tick backlog within (Ok time) = late_text tick time within
why_text tick backlog within (Err why.AsksTooMuch) = codes "its jobs may come faster than they are finished"
why_text tick backlog within (Err (why.BacklogTooSmall needed)) = unfinished_text needed backlog
why_text tick backlog within (Err why.SharedOverrun) = codes "a unit may overrun, and it has several sources"
why_text tick backlog within (Err why.LateOverrun) = codes "a unit may overrun, and a job may not be finished when the next comes"
why_text tick backlog within (Err why.BeyondLimits) = codes "its sources are beyond the limits"

-- the line that says so of a server
unfoldable pub reason_text : Option ℕ → List ℕ → ℕ → Option ℕ → Result ℕ NotPromised → List ℕ
reason_text tick name backlog within promised =
    codes "note: " ++ name ++ codes " is not promised: " ++ why_text tick backlog within promised ++ codes "\n"

-- what is asked for once, if there is something
unfoldable pub once_text : Option ℕ → ℕ → List ℕ
once_text tick ticks = if eqb ticks 0 then [] else codes ", and for " ++ ticks_text tick ticks ++ codes " once"

-- what the sources may ask for, also once, and what the server has
unfoldable pub demand_text : Option ℕ → Rate → Asked → ℕ → List ℕ
demand_text tick rate a once =
    codes "      it may ask for " ++ fraction_text a.ticks a.of ++ codes " of the time" ++ once_text tick once
    ++ codes ", and has " ++ fraction_text rate.budget rate.period ++ codes "\n"

-- the same, if they may ask for too much, and if it is summed
abbrev pub asked_text : Option ℕ → Rate → Result ℕ NotPromised → Option Asked → ℕ → List ℕ
asked_text tick rate (Err why.AsksTooMuch) (Some a) once = demand_text tick rate a once
asked_text tick rate _ _ once = []

-- the note of a server, if a remedy is needed
unfoldable pub note_text : Option ℕ → List ℕ → Rate → ℕ → Option ℕ → ServerLoad → List ℕ
note_text tick name rate backlog within l = elim l.remedy [
  | None ↦ []
  | Some m ↦ reason_text tick name backlog within l.promised ++ asked_text tick rate l.promised l.asked l.once ++ remedy_text tick m l.kept l.room
]

-- the note of server s
abbrev pub note_at : LoadFile → List ServerLoad → ℕ → List ℕ
note_at f loads s = note_text f.tick (name_at f.names s) (rate_at f.plan.rates s) f.backlog (least_within f.sources s) (get_or loads s no_load)

-- the notes of all servers
abbrev pub notes_text : LoadFile → List ServerLoad → List ℕ
notes_text f loads = flat_map (note_at f loads) (range_with_len 0 (length f.plan.rates))

-- an empty line before a text, if there is a text
abbrev pub set_off : List ℕ → List ℕ
set_off [] = []
set_off (b ∷ bs) = codes "\n" ++ (b ∷ bs)
