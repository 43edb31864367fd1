-- The greatest demand of sources, all together, as an exact share of the time.
use Rattle.std.specs.Prelude.{◌≡◌, ℕ, ◌*◌, ◌≤◌, ◌<◌, List, map, ◌+◌, ◌/◌}
use Rattle.std.specs.List.{sum_by}
use Rattle.cbs_rate.specs.Limits.{greatest_common_multiple, longest_period, most_units}
use Rattle.cbs_rate.specs.Plan.{share, IsCommonMultiple}
use Rattle.cbs_rate.specs.Rate.{Rate}
use Rattle.cbs_guarantee.specs.Sources.{ticks_of}
use Rattle.cbs_guarantee.specs.declared.source.Source.{Source}
use Rattle.cbsrun_loads.specs.Loads.{most_sources}
use Rattle.cbsrun_sizing.specs.declared.asked.Asked.{Asked}
use Rattle.std.specs.Int.{◌∣◌}

-- the most ticks that a job of a load may take: the most units, each with the longest overrun
abbrev pub most_ticks : ℕ
most_ticks = most_units * (1 + longest_period)

-- the greatest demand of a source: the most ticks of a job, in the least ticks from one job to the next
abbrev pub demand : Source → Rate
demand source = record { budget = ticks_of source; period = source.every }

abbrev pub demands : List Source → List Rate
demands sources = map demand sources

-- the demand of all sources: `ticks` in every `of` ticks, and `of` is a common multiple of their periods. It is no more
-- than as many sources as a load may have could ask for
pub record IsAsked (sources : List Source) (a : Asked) : Type 0 where
  pub some : 0 < a.of
  pub coarse : a.of ≤ greatest_common_multiple
  pub common : IsCommonMultiple a.of (demands sources)
  pub ticks : a.ticks ≡ sum_by (share a.of) (demands sources)
  pub small : a.ticks ≤ most_sources * (most_ticks * a.of)

-- no common multiple of their periods is at most 10^18, which is the limit for exact sums
abbrev pub AreTooFine : List Source → Type 0
AreTooFine sources = (m : ℕ) → 0 < m → IsCommonMultiple m (demands sources) → greatest_common_multiple < m

-- the demand and the source are added up over a common multiple, which divides every other common multiple
pub record IsJoined (before : Asked) (source : Source) (after : Asked) : Type 0 where
  pub some : 0 < after.of
  pub coarse : after.of ≤ greatest_common_multiple
  pub of : before.of ∣ after.of
  pub every : source.every ∣ after.of
  pub divides : (m : ℕ) → before.of ∣ m → source.every ∣ m → after.of ∣ m
  pub ticks : after.ticks ≡ before.ticks * (after.of / before.of) + ticks_of source * (after.of / source.every)

-- no common multiple is at most 10^18
abbrev pub IsJoinedTooFine : Asked → Source → Type 0
IsJoinedTooFine before source = (m : ℕ) → 0 < m → before.of ∣ m → source.every ∣ m → greatest_common_multiple < m
