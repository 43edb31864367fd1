-- What the top table of a task file spells. The entries of its two arrays are not read here.
use Rattle.std.specs.Prelude.{ℕ, ℤ, codes, map, List, [], ◌∷◌, Option, Some, None, option_map, Result, Ok}
use Rattle.cbs_rate.specs.Limits.{most_backlog, most_ring}
use Rattle.toml.specs.Data.{Data, Members}
use Rattle.toml.specs.View.{view}
use Rattle.cbs_rate.specs.Bound.{Fraction}
use Rattle.cbs_rules.specs.declared.mode.Mode.{Mode}
use Rattle.cbsrun_toml_tables.specs.declared.fault.FileKind.{FileKind}
use Rattle.cbsrun_task_steps.specs.declared.format.Format.{Format}
use Rattle.cbsrun_task_steps.specs.declared.format.Format.TheVariants.{One, Two}
use Rattle.cbsrun_tasks.specs.declared.top.TopTable.{TopTable}
use Rattle.cbsrun_tasks.specs.declared.top.TypedValues.{TypedValues}
use Rattle.cbsrun_toml_tables.specs.Fields.{◌>>=◌, with_keys, integer_at, text_at, items_at, pair_at, within, of_some}
use Rattle.cbsrun_task_steps.specs.Entries.{format_at}
use Rattle.cbsrun_toml_tables.specs.Plans.{bound_of, mode_of}

-- the keys of the top table, each of which it must have
abbrev pub keys_of : Format → List (List ℕ)
keys_of One = codes "format" ∷ codes "mode" ∷ codes "bound" ∷ codes "backlog" ∷ codes "ring" ∷ codes "server" ∷ codes "step" ∷ []
keys_of Two = codes "format" ∷ codes "bound" ∷ codes "backlog" ∷ codes "ring" ∷ codes "server" ∷ codes "step" ∷ []

-- the word of the mode of all servers, in the format that has one
abbrev pub mode_at : Format → Members → Result (Option (List ℕ)) FileKind
mode_at One table = do
  word ← text_at (codes "mode") table
  Ok (Some word)
mode_at Two table = Ok None

-- the values of the keys, each of its type
pub record TypedData : Type 0 where
  pub mode : Option (List ℕ)
  pub bound : Option (ℤ × ℤ)
  pub backlog : ℤ
  pub ring : ℤ
  pub servers : List Data
  pub steps : List Data

-- the values, or the first fault over all keys. Unknown keys are tested first, then missing keys, then the types of the
-- values
unfoldable pub typed_values : Format → Members → Result TypedData FileKind
typed_values format table = do
  _ ← with_keys (keys_of format) [] table
  mode_word ← mode_at format table
  bound_pair ← pair_at (codes "bound") table
  backlog_number ← integer_at (codes "backlog") table
  ring_number ← integer_at (codes "ring") table
  servers ← items_at (codes "server") table
  steps ← items_at (codes "step") table
  Ok (record { mode = mode_word; bound = bound_pair; backlog = backlog_number; ring = ring_number; servers = servers; steps = steps })

-- what the top table spells
pub record TopData : Type 0 where
  pub format : Format
  pub mode : Option Mode
  pub bound : Fraction
  pub backlog : ℕ
  pub ring : ℕ
  pub servers : List Data
  pub steps : List Data

-- what the typed values spell, or the fault that one is out of range
unfoldable pub spelled_by : Format → TypedData → Result TopData FileKind
spelled_by format values = do
  mode ← of_some mode_of values.mode
  bound ← bound_of values.bound
  backlog ← within 1 most_backlog values.backlog
  ring ← within 1 most_ring values.ring
  Ok (record { format = format; mode = mode; bound = bound; backlog = backlog; ring = ring; servers = values.servers; steps = values.steps })

-- what the top table spells, or its first fault. The format comes first. Then come the types of all values, and after
-- them the ranges
abbrev pub top_table : Members → Result TopData FileKind
top_table table = do
  format ← format_at table
  typed ← typed_values format table
  spelled_by format typed

-- the typed values, as the code holds them
abbrev pub typed_view : TypedValues → TypedData
typed_view v = record {
  mode = option_map (λ m. m.now) v.mode;
  bound = v.bound;
  backlog = v.backlog;
  ring = v.ring;
  servers = map view v.servers.now.items;
  steps = map view v.steps.now.items;
}

-- the top table, as the code holds it
abbrev pub top_view : TopTable → TopData
top_view t = record {
  format = t.format;
  mode = t.mode;
  bound = t.bound;
  backlog = t.backlog;
  ring = t.ring;
  servers = map view t.servers.now.items;
  steps = map view t.steps.now.items;
}
