use Rattle.std.proofs.Common.{◌≡◌, map}
use Rattle.std.specs.List.{range_with_len}
use Rattle.cbsrun_svg_shapes.specs.Columns.{counts_at}
use Rattle.cbsrun_svg_shapes.proofs.columns.cell_counts.Given as goal

abbrev pub invariant-loop-cell : goal.invariant-loop-cell
invariant-loop-cell l = l.counts.items ≡ map (counts_at l.axis l.stretches) (range_with_len 0 l.cell)
