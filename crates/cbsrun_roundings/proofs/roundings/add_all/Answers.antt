use Rattle.std.specs.Prelude.{map}
use Rattle.toml.specs.View.{view}
use Rattle.cbsrun_roundings.specs.Roundings.{in_entry, place_view, rounded_view}
use Rattle.cbsrun_roundings.proofs.Rows.{rows_more}
use Rattle.cbsrun_roundings.proofs.roundings.add_all.Goals as goal

pub loop-value-preserved : goal.loop-value-preserved
loop-value-preserved c =
    rows_more (in_entry c.args.tick (place_view c.args.place)) view c.args.values.now c.loop-value.value-index c.value-item.result
    (map rounded_view c.args.rows.now.items) (map rounded_view c.loop-value.rows.items) (map rounded_view c.add_entry.new.rows.items)
    c.loop-value-test.true c.value-item.is c.loop-value.invariant c.in_ok-add_entry.ensures
