use Rattle.std.proofs.Common.{◌∙◌, ◌++◌, ap, string_bytes, sym}
use Rattle.std.specs.List.{flat_map, range_with_len}
use Rattle.cbsrun_svg_shapes.specs.Columns.{edge_text}
use Rattle.cbsrun_svg_shapes.proofs.Texts.{grown, numbered_more}
use Rattle.cbsrun_svg_shapes.proofs.columns.append_edges.Goals as goal

pub loop-cell-preserved : goal.loop-cell-preserved
loop-cell-preserved c =
    let f = edge_text c.args.axis.now c.args.base c.args.heights.now in
    let cell = c.loop-cell.cell in
    grown _ _ _ (flat_map f (range_with_len 0 cell)) (f cell) c.in_ok-append_edge.ensures c.loop-cell.invariant
    ∙ ap (λ t. string_bytes c.args.shape.now ++ t) (sym (numbered_more f cell))
