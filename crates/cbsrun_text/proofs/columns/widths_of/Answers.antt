use Rattle.std.proofs.Common.{arith}
use Rattle.cbsrun_text.specs.Columns.{rows_of}
use Rattle.cbsrun_text.proofs.Widths.{are_widths, widths_counted, widths_more}
use Rattle.cbsrun_text.proofs.columns.widths_of.Goals as goal

pub loop-column-preserved : goal.loop-column-preserved
loop-column-preserved c =
    widths_more (rows_of c.args.rows.now) c.loop-column.widths.items _ c.loop-column.column c.width_of.result c.in_ok-push.ensures.items
    c.loop-column.invariant c.width_of.ensures

pub returns-clause-count : goal.returns-clause-count
returns-clause-count c =
    let counted = widths_counted (rows_of c.args.rows.now) c.loop-column.widths.items c.loop-column.column c.loop-column.invariant in
    omega (arith, counted, c.loop-column-test.false, c.loop-column.auto.column-end)

pub returns-clause-widths : goal.returns-clause-widths
returns-clause-widths c =
    are_widths (rows_of c.args.rows.now) c.loop-column.widths.items c.loop-column.column c.loop-column.invariant
