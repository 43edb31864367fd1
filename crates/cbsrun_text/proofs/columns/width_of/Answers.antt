use Rattle.std.proofs.Common.{◌≡◌, ◌∙◌, ap, max, arith}
use Rattle.std.proofs.lemmas.Grind.{common_steps}
use Rattle.cbsrun_text.specs.Columns.{width_in}
use Rattle.cbsrun_text.proofs.Widths.{width_of_more}
use Rattle.cbsrun_text.proofs.columns.width_of.Goals as goal

pub loop-row-preserved : goal.loop-row-preserved
loop-row-preserved c =
    let row = c.row-item.result in
    let here = c.width_in.ensures ∙ ap (width_in c.args.column) (c.deref.ensures.value ∙ ap (λ r. r.items) c.row-item.is) in
    let greater : c.max-width.result ≡ max c.loop-row.width c.width_in.result = grind (arith, common_steps) in
    let more = width_of_more c.args.column c.args.rows.now c.loop-row.row-index row c.loop-row-test.true in
    omega (arith, greater, here, more)
