use Rattle.std.proofs.Common.{◌≡◌, ◌++◌, string_bytes}
use Rattle.std.specs.List.{flat_map, range_with_len}
use Rattle.cbsrun_svg_shapes.specs.Columns.{edge_text}
use Rattle.cbsrun_svg_shapes.proofs.columns.append_edges.Given as goal

abbrev pub invariant-loop-cell : goal.invariant-loop-cell
invariant-loop-cell l = string_bytes l.shape ≡ string_bytes l.fn.shape ++ flat_map (edge_text l.axis l.base l.heights) (range_with_len 0 l.cell)
