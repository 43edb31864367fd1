use Rattle.std.proofs.Common.{◌≡◌, ◌++◌, take}
use Rattle.std.specs.Prelude.{flat_map, map}
use Rattle.toml.specs.View.{view}
use Rattle.cbsrun_roundings.specs.Roundings.{of_entry, rounded_view}
use Rattle.cbsrun_roundings.proofs.roundings.add_tables.Given as goal

abbrev pub invariant-loop-value : goal.invariant-loop-value
invariant-loop-value l = map rounded_view l.rows.items
    ≡ map rounded_view l.fn.rows.items ++ flat_map (of_entry l.kind l.tick) (map view (take l.value-index l.values))
