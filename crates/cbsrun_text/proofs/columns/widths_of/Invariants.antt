use Rattle.std.proofs.Common.{◌≡◌, map}
use Rattle.std.specs.List.{range_with_len}
use Rattle.cbsrun_text.specs.Columns.{rows_of, width_of}
use Rattle.cbsrun_text.proofs.columns.widths_of.Given as goal

abbrev pub invariant-loop-column : goal.invariant-loop-column
invariant-loop-column l = l.widths.items ≡ map (λ column. width_of column (rows_of l.rows)) (range_with_len 0 l.column)
