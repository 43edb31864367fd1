-- What a load file holds.
use Rattle.std.specs.Prelude.{◌≡◌, ℕ, ◌≤◌, List, length, All, Option}
use Rattle.cbs_rate.specs.Limits.{most_backlog}
use Rattle.cbs_rate.specs.Plan.{Planned}
use Rattle.cbs_rules.specs.Rules.{clock_end}
use Rattle.cbs_rules.specs.declared.mode.Mode.{Mode}
use Rattle.cbsrun_simulate.specs.Drawing.{AreListed, released_by_all}
use Rattle.cbsrun_simulate.specs.Merging.{merged}
use Rattle.cbsrun_simulate.specs.declared.release.Release.{Release}
use Rattle.cbsrun_simulate.specs.declared.terms.SourceTerms.{SourceTerms}
pub use Rattle.cbsrun_entries.specs.Sources.{IsSource}

-- the names, modes and plan of the servers, the greatest backlog of each, the sources, the nominal ticks that are listed
-- of each, none if they are drawn, the tick at which a simulation ends, the seed, and the nanoseconds of a tick, if they
-- are said
pub record LoadFile : Type 0 where
  pub tick : Option ℕ
  pub names : List (List ℕ)
  pub modes : List Mode
  pub plan : Planned
  pub backlog : ℕ
  pub until : ℕ
  pub seed : ℕ
  pub sources : List SourceTerms
  pub listed : List (List ℕ)

-- the releases of the sources of a load, in the order of their ticks
abbrev pub releases_of : LoadFile → List Release
releases_of f = merged (released_by_all 0 f.sources f.listed f.until f.seed)

-- the load with this seed in place of its own
abbrev pub with_seed : ℕ → LoadFile → LoadFile
with_seed seed f = record f { seed = seed }

-- the load with its end at this tick, in place of its own end
abbrev pub with_until : ℕ → LoadFile → LoadFile
with_until until f = record f { until = until }

-- the greatest number of sources of a load
abbrev pub most_sources : ℕ
most_sources = 65536

-- what holds of every load file
pub record IsLoad (f : LoadFile) : Type 0 where
  pub named : length f.names ≡ length f.plan.rates
  pub moded : length f.modes ≡ length f.plan.rates
  pub some_backlog : 1 ≤ f.backlog
  pub small_backlog : f.backlog ≤ most_backlog
  pub some_ticks : 1 ≤ f.until
  pub few_ticks : f.until ≤ clock_end
  pub few_sources : length f.sources ≤ most_sources
  pub lawful : All (IsSource (length f.plan.rates)) f.sources
  pub listed : AreListed f.sources f.listed
