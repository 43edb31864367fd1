-- What the top table of a record spells. The entries of its two arrays are not read here.
use Rattle.std.specs.Prelude.{ℕ, ℤ, Bool, false, true, codes, map, List, [], ◌∷◌, Option, Result, Ok}
use Rattle.cbs_rate.specs.Bound.{Fraction}
use Rattle.cbs_rate.specs.Limits.{most_backlog}
use Rattle.toml.specs.Data.{Data, Members}
use Rattle.toml.specs.View.{view}
use Rattle.cbsrun_loads.specs.Times.{tick_at}
use Rattle.cbsrun_toml_tables.specs.declared.fault.FileKind.{FileKind}
use Rattle.cbsrun_toml_tables.specs.Fields.{◌>>=◌, with_keys, integer_at, items_at, pair_at, within}
use Rattle.cbsrun_toml_tables.specs.Plans.{bound_of}
use Rattle.cbsrun_records.specs.declared.top.TypedValues.{TypedValues}
use Rattle.cbsrun_records.specs.declared.top.TopTable.{TopTable}

-- the kind of the record, which is 1
abbrev pub kind_at : Members → Result ℕ FileKind
kind_at table = do
  kind_number ← integer_at (codes "record") table
  within 1 1 kind_number

-- the keys that the top table must have: `step` only if there is no tape. How long a tick is may be left out
abbrev pub required_keys : Bool → List (List ℕ)
required_keys false = codes "record" ∷ codes "bound" ∷ codes "backlog" ∷ codes "server" ∷ codes "step" ∷ []
required_keys true = codes "record" ∷ codes "bound" ∷ codes "backlog" ∷ codes "server" ∷ []

-- the entries of `step`: none if there is a tape
abbrev pub steps_at : Bool → Members → Result (List Data) FileKind
steps_at false table = items_at (codes "step") table
steps_at true table = Ok []

-- the values of the keys, each of its type
pub record TypedData : Type 0 where
  pub tick : Option ℕ
  pub bound : Option (ℤ × ℤ)
  pub backlog : ℤ
  pub servers : List Data
  pub steps : List Data

-- the values, or the first fault over all keys. Unknown keys are tested first, then missing keys, then the tick, then the
-- types of the other values
unfoldable pub typed_values : Bool → Members → Result TypedData FileKind
typed_values taped table = do
  _ ← with_keys (required_keys taped) (codes "tick" ∷ []) table
  tick ← tick_at table
  bound_pair ← pair_at (codes "bound") table
  backlog_number ← integer_at (codes "backlog") table
  servers ← items_at (codes "server") table
  steps ← steps_at taped table
  Ok (record { tick = tick; bound = bound_pair; backlog = backlog_number; servers = servers; steps = steps })

-- what the top table spells
pub record TopData : Type 0 where
  pub tick : Option ℕ
  pub bound : Fraction
  pub backlog : ℕ
  pub servers : List Data
  pub steps : List Data

-- what the values spell, or the fault that one is out of range
unfoldable pub spelled_by : TypedData → Result TopData FileKind
spelled_by n = do
  bound ← bound_of n.bound
  backlog ← within 1 most_backlog n.backlog
  Ok (record { tick = n.tick; bound = bound; backlog = backlog; servers = n.servers; steps = n.steps })

-- what the top table spells, or its first fault. The kind of the record comes first
abbrev pub top_table : Bool → Members → Result TopData FileKind
top_table taped table = do
  _ ← kind_at table
  found ← typed_values taped table
  spelled_by found

-- the values of each type, as the code holds them
abbrev pub typed_view : TypedValues → TypedData
typed_view n = record {
  tick = n.tick;
  bound = n.bound;
  backlog = n.backlog;
  servers = map view n.servers.now.items;
  steps = map view n.steps.now;
}

-- the top table, as the code holds it
abbrev pub top_view : TopTable → TopData
top_view t = record {
  tick = t.tick;
  bound = t.bound;
  backlog = t.backlog;
  servers = map view t.servers.now.items;
  steps = map view t.steps.now;
}
