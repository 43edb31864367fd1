use Rattle.std.proofs.Common.{◌∙◌, ◌∷◌, [], ◌++◌, ap, map, sym}
use Rattle.std.specs.List.{range_with_len}
use Rattle.cbsrun_svg_shapes.specs.Columns.{counts_at}
use Rattle.cbsrun_svg_shapes.proofs.Texts.{mapped_more}
use Rattle.cbsrun_svg_shapes.proofs.columns.cell_counts.Goals as goal

pub loop-cell-preserved : goal.loop-cell-preserved
loop-cell-preserved c =
    let f = counts_at c.args.axis.now c.args.stretches.now in
    c.in_ok-push.ensures.items ∙ (ap (λ xs. xs ++ c.counts_at.result ∷ []) c.loop-cell.invariant
    ∙ (ap (λ x. map f (range_with_len 0 c.loop-cell.cell) ++ x ∷ []) c.counts_at.ensures ∙ sym (mapped_more f c.loop-cell.cell)))
