-- What the top table of a load file spells. The entries of its two arrays are not read here.
use Rattle.std.specs.Prelude.{ℕ, ℤ, codes, map, unwrap_or, List, [], ◌∷◌, Option, Result, Ok}
use Rattle.cbs_rate.specs.Limits.{most_backlog}
use Rattle.toml.specs.Data.{Data, Members}
use Rattle.toml.specs.View.{view}
use Rattle.cbs_rate.specs.Bound.{Fraction}
use Rattle.cbs_rules.specs.Rules.{clock_end}
use Rattle.cbsrun_toml_tables.specs.declared.fault.FileKind.{FileKind}
use Rattle.cbsrun_toml_tables.specs.Fields.{◌>>=◌, with_keys, integer_at, items_at, pair_at, optional_integer_at, within, of_some, sized}
use Rattle.cbsrun_times.specs.declared.ticks.Rounding.TheVariants.{Up}
use Rattle.cbsrun_entries.specs.Times.{tick_at, ticks_at}
use Rattle.cbsrun_toml_tables.specs.Plans.{bound_of}
use Rattle.cbsrun_loads.specs.Loads.{most_sources}
use Rattle.cbsrun_loads.specs.declared.top.TypedValues.{TypedValues}
use Rattle.cbsrun_loads.specs.declared.top.TopTable.{TopTable}

-- the kind of the load file, which is 1
abbrev pub kind_at : Members → Result ℕ FileKind
kind_at table = do
  kind_number ← integer_at (codes "load") table
  within 1 1 kind_number

-- the keys that the top table must have, and those that may be left out
abbrev pub required_keys : List (List ℕ)
required_keys = codes "load" ∷ codes "bound" ∷ codes "backlog" ∷ codes "until" ∷ codes "server" ∷ codes "source" ∷ []

abbrev pub optional_keys : List (List ℕ)
optional_keys = codes "seed" ∷ codes "tick" ∷ []

-- the values of the keys, each of its type
pub record TypedData : Type 0 where
  pub tick : Option ℕ
  pub bound : Option (ℤ × ℤ)
  pub backlog : ℤ
  pub until : ℤ
  pub seed : Option ℤ
  pub servers : List Data
  pub sources : List Data

-- the values, or the first fault over all keys. Unknown keys are tested first, then missing keys, then the tick, then the
-- types of the other values. The end is rounded up to ticks
unfoldable pub typed_values : Members → Result TypedData FileKind
typed_values table = do
  _ ← with_keys required_keys optional_keys table
  tick ← tick_at table
  bound_pair ← pair_at (codes "bound") table
  backlog_number ← integer_at (codes "backlog") table
  until_number ← ticks_at tick Up (codes "until") table
  seed_number ← optional_integer_at (codes "seed") table
  servers ← items_at (codes "server") table
  sources ← items_at (codes "source") table
  Ok (record { tick = tick; bound = bound_pair; backlog = backlog_number; until = until_number; seed = seed_number; servers = servers; sources = sources })

-- what the top table spells
pub record TopData : Type 0 where
  pub tick : Option ℕ
  pub bound : Fraction
  pub backlog : ℕ
  pub until : ℕ
  pub seed : ℕ
  pub servers : List Data
  pub sources : List Data

-- what the values spell, or the fault that one is out of range. If the seed is left out, it is 0
unfoldable pub spelled_by : TypedData → Result TopData FileKind
spelled_by n = do
  bound ← bound_of n.bound
  backlog ← within 1 most_backlog n.backlog
  until ← within 1 clock_end n.until
  seed ← of_some (within 0 9223372036854775807) n.seed
  _ ← sized 0 most_sources n.sources
  Ok (record { tick = n.tick; bound = bound; backlog = backlog; until = until; seed = unwrap_or seed 0; servers = n.servers; sources = n.sources })

-- what the top table spells, or its first fault. The kind of the load comes first
abbrev pub top_table : Members → Result TopData FileKind
top_table table = do
  _ ← kind_at table
  found ← typed_values table
  spelled_by found

-- the values of each type, as the code holds them
abbrev pub typed_view : TypedValues → TypedData
typed_view n = record {
  tick = n.tick;
  bound = n.bound;
  backlog = n.backlog;
  until = n.until;
  seed = n.seed;
  servers = map view n.servers.now.items;
  sources = map view n.sources.now.items;
}

-- the top table, as the code holds it
abbrev pub top_view : TopTable → TopData
top_view t = record {
  tick = t.tick;
  bound = t.bound;
  backlog = t.backlog;
  until = t.until;
  seed = t.seed;
  servers = map view t.servers.now.items;
  sources = map view t.sources.now.items;
}
