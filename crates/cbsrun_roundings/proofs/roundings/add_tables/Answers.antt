use Rattle.std.specs.Prelude.{map}
use Rattle.toml.specs.View.{view}
use Rattle.cbsrun_roundings.specs.Roundings.{of_entry, rounded_view}
use Rattle.cbsrun_roundings.proofs.Rows.{rows_more}
use Rattle.cbsrun_roundings.proofs.roundings.add_tables.Goals as goal

pub loop-value-preserved : goal.loop-value-preserved
loop-value-preserved c =
    rows_more (of_entry c.args.kind c.args.tick) view c.args.values.now c.loop-value.value-index c.value-item.result
    (map rounded_view c.args.rows.now.items) (map rounded_view c.loop-value.rows.items) (map rounded_view c.add_table_of.new.rows.items)
    c.loop-value-test.true c.value-item.is c.loop-value.invariant c.in_ok-add_table_of.ensures
