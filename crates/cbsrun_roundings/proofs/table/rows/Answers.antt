use Rattle.cbsrun_roundings.specs.Roundings.{rounded_view}
use Rattle.cbsrun_roundings.specs.Tables.{heading, row_of}
use Rattle.cbsrun_roundings.proofs.Rows.{row_more, rows_done}
use Rattle.cbsrun_roundings.proofs.table.rows.Goals as goal

pub loop-rounded-preserved : goal.loop-rounded-preserved
loop-rounded-preserved c = rw c.in_ok-push-2.ensures.items
    (row_more (λ row. row.items) (λ r. row_of c.args.tick (rounded_view r)) heading c.loop-rounded.rows.items c.in_ok-row_of.field-0 c.args.shown.now
    c.loop-rounded.rounded-index _ c.loop-rounded-test.true c.loop-rounded.invariant c.in_ok-row_of.ensures)

pub returns : goal.returns
returns c = rows_done (λ row. row.items) (row_of c.args.tick) rounded_view heading c.loop-rounded.rows.items c.args.shown.now c.loop-rounded.rounded-index
    c.loop-rounded-test.false c.loop-rounded.invariant
