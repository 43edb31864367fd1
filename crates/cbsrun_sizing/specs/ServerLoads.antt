-- The demand of the sources of each server of a load, and within how many ticks their jobs are finished.
use Rattle.std.specs.Prelude.{◌≡◌, ℕ, ◌+◌, ◌-◌, ◌<◌, ◌&&◌, Bool, false, not, eqb, if◌then◌else◌, min, max, List, length, map, get_or, MatchOption, MatchResult, Option, Some, None, Ok, All, ◌≤◌}
use Rattle.std.specs.List.{sum, sum_by, filter, fold, list_any, range_with_len}
use Rattle.cbs_rate.specs.Limits.{greatest_number, longest_period}
use Rattle.cbs_rate.specs.Plan.{Planned, IsGreatestBudget}
use Rattle.cbs_rate.specs.Rate.{Rate}
use Rattle.cbs_guarantee.specs.Parts.{rate_at}
use Rattle.cbs_guarantee.specs.Sources.{ticks_of, IsPromised, IsReason}
use Rattle.cbs_guarantee.specs.declared.source.Source.{Source}
use Rattle.cbsrun_loads.specs.Loads.{LoadFile}
use Rattle.cbsrun_loads.specs.Sketches.{SketchFile}
use Rattle.cbsrun_proposals.specs.Proposals.{IsEnough, IsRemedy}
use Rattle.cbsrun_proposals.specs.declared.remedy.Proposal.{Proposal}
use Rattle.cbsrun_proposals.specs.declared.remedy.Remedy.{Remedy}
use Rattle.cbsrun_proposals.specs.declared.wanted.Wanted.{Wanted}
use Rattle.cbsrun_simulate.specs.Released.{distance, is_single}
use Rattle.cbsrun_simulate.specs.declared.terms.SourceTerms.{SourceTerms}
use Rattle.cbsrun_sizing.specs.Asked.{IsAsked, AreTooFine}
use Rattle.cbsrun_sizing.specs.Budgets.{without}
use Rattle.cbsrun_sizing.specs.declared.server_load.ServerLoad.{ServerLoad}

-- a number as 32 bits hold it: at most 2^32 - 1
abbrev pub held : ℕ → ℕ
held n = min n greatest_number

-- no unit of a source overruns by more than the longest period
abbrev pub AreShort : List SourceTerms → Type 0
AreShort sources = All (λ t. t.overrun.greatest ≤ longest_period) sources

-- a source at its greatest demand: the most units, the least ticks from one job to the next, by its jitter too, and the
-- greatest overrun of a unit
abbrev pub at_most : SourceTerms → Source
at_most t = record { units = held t.units.greatest; every = distance t; overrun = held t.overrun.greatest }

-- the sources of server s, each at its greatest demand
abbrev pub sources_of : ℕ → List SourceTerms → List Source
sources_of s sources = map at_most (filter (λ t. eqb t.server s) sources)

-- the source gives one job alone, to server s
abbrev pub is_single_of : ℕ → SourceTerms → Bool
is_single_of s t = eqb t.server s && is_single t.jobs

-- the sources of server s that give more than one job, each at its greatest demand
abbrev pub repeated_of : ℕ → List SourceTerms → List Source
repeated_of s sources = map at_most (filter (λ t. eqb t.server s && not (is_single t.jobs)) sources)

-- the most ticks of the jobs of the other sources of server s, which are asked for once: at most 2^64 - 1
abbrev pub once_of : ℕ → List SourceTerms → ℕ
once_of s sources = min (sum_by (λ t. if is_single_of s t then ticks_of (at_most t) else 0) sources) 18446744073709551615

-- the most ticks that server s is charged for one unit: the greatest overrun of its sources
abbrev pub most_charged : List SourceTerms → ℕ → ℕ
most_charged sources s = fold (λ most t. if eqb t.server s then max most t.overrun.greatest else most) 0 sources

-- the sum of the most ticks that each of n servers is charged for one unit
abbrev pub all_charges : List SourceTerms → ℕ → ℕ
all_charges sources n = sum (map (most_charged sources) (range_with_len 0 n))

-- by how many ticks the others may delay server s: the sum of the most ticks that each of them is charged for one unit
abbrev pub delay_of : LoadFile → ℕ → ℕ
delay_of f s = all_charges f.sources (length f.plan.rates) - most_charged f.sources s

-- by how many ticks a charge may pass a release for server s, which is submitted after it: the greatest overrun of the
-- sources of the others
abbrev pub most_passed : List SourceTerms → ℕ → ℕ
most_passed sources s = fold (λ most t. if eqb t.server s then most else max most t.overrun.greatest) 0 sources

-- by how many ticks the others may delay the jobs of server s, counted from their releases
abbrev pub delay_from_release : LoadFile → ℕ → ℕ
delay_from_release f s = delay_of f s + most_passed f.sources s

-- the lesser of two numbers, if there are two
abbrev pub lesser : Option ℕ → Option ℕ → Option ℕ
lesser (Some m) (Some n) = Some (min m n)
lesser (Some m) None = Some m
lesser None n = n

-- the least number of ticks within which a source of server s wants its jobs finished, if it has a source
abbrev pub least_within : List SourceTerms → ℕ → Option ℕ
least_within sources s = fold (λ least t. if eqb t.server s then lesser least t.within else least) None sources

-- what the jobs of server s of n have to live with, with this backlog, and by when they have to be finished
abbrev pub wanted_by : List SourceTerms → ℕ → ℕ → ℕ → Wanted
wanted_by sources n backlog s = record {
  delay = all_charges sources n - most_charged sources s + most_passed sources s;
  backlog = backlog;
  within = least_within sources s;
}

-- the same for server s of a load, and of a sketch
abbrev pub wanted_of : LoadFile → ℕ → Wanted
wanted_of f s = wanted_by f.sources (length f.plan.rates) f.backlog s

abbrev pub wanted_in : SketchFile → ℕ → Wanted
wanted_in k s = wanted_by k.sources (length k.names) k.backlog s

-- the reservation of each tick of the time
abbrev pub every_tick : Rate
every_tick = record { budget = 1; period = 1 }

-- the proposal of a remedy, if there is one
abbrev pub proposed : Option Remedy → Option Proposal
proposed None = None
proposed (Some m) = m.reservation

-- so many ticks are wanted
abbrev pub is_wanted : ℕ → Option ℕ → Bool
is_wanted n None = false
is_wanted n (Some within) = eqb within n

-- a source of server s wants its jobs finished within so many ticks
abbrev pub wants : List SourceTerms → ℕ → ℕ → Bool
wants sources s n = list_any (λ t. eqb t.server s && is_wanted n t.within) sources

-- The period of server s, if a source of it wants its jobs finished within that period, and a proposal has another. A
-- source that says nothing wants its jobs within the period of its server, so it has to say this with the proposal
abbrev pub kept_within : List SourceTerms → ℕ → ℕ → Option Proposal → Option ℕ
kept_within sources s period None = None
kept_within sources s period (Some p) = if not (eqb p.period period) && wants sources s period then Some period else None

-- the greatest budget that fits at the period of a proposal beside all servers but s, and 0 if there is no proposal
abbrev pub IsRoomFor : Planned → ℕ → Option Proposal → ℕ → Type 0
IsRoomFor plan s proposal room = MatchOption proposal (room ≡ 0) (λ p. IsGreatestBudget (without plan s) p.period room)

-- The figures of server s. `asked` is the demand of its sources that give more than one job, if that can be summed, and
-- `once` that of the others. `promised` is within how many ticks of its release each of their jobs is finished, or why
-- that is not promised. `remedy` is what would do, if its reservation does not, `kept` which `within` has to be said with
-- it, and `room` what fits at the remedy's period.
pub record IsServerLoad (f : LoadFile) (s : ℕ) (l : ServerLoad) : Type 0 where
  pub asked : let own = repeated_of s f.sources in MatchOption l.asked (AreTooFine own) (IsAsked own)
  pub once : l.once ≡ once_of s f.sources
  pub promised : let own = sources_of s f.sources in
      MatchResult l.promised (IsPromised (rate_at f.plan.rates s) own (delay_from_release f s) f.backlog)
      (IsReason (rate_at f.plan.rates s) own (delay_from_release f s) f.backlog)
  pub remedy : let own = sources_of s f.sources in
      MatchOption l.remedy (IsEnough own (wanted_of f s) (rate_at f.plan.rates s)) (IsRemedy own (wanted_of f s) (rate_at f.plan.rates s))
  pub kept : l.kept ≡ kept_within f.sources s (rate_at f.plan.rates s).period (proposed l.remedy)
  pub room : IsRoomFor f.plan s (proposed l.remedy) l.room

-- what stands for a server that does not exist
abbrev pub no_load : ServerLoad
no_load = record { asked = None; once = 0; promised = Ok 0; remedy = None; kept = None; room = 0 }

-- the figures of each of the first n servers
pub record AreServerLoads (f : LoadFile) (n : ℕ) (loads : List ServerLoad) : Type 0 where
  pub count : length loads ≡ n
  pub each : (s : ℕ) → s < n → IsServerLoad f s (get_or loads s no_load)
