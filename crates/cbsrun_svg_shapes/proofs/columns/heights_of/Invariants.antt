use Rattle.std.proofs.Common.{◌≡◌, map, take}
use Rattle.cbsrun_svg_shapes.specs.Columns.{layer_height}
use Rattle.cbsrun_svg_shapes.proofs.columns.heights_of.Given as goal

abbrev pub invariant-loop-cell : goal.invariant-loop-cell
invariant-loop-cell l = l.heights.items ≡ map (layer_height l.axis l.whole l.layer) (take l.cell-index l.counts)
