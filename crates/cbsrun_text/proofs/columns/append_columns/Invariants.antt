use Rattle.std.proofs.Common.{◌≡◌, ◌++◌, take, string_bytes}
use Rattle.std.specs.List.{flat_map}
use Rattle.cbsrun_text.specs.Columns.{rows_of, row_text}
use Rattle.cbsrun_text.proofs.columns.append_columns.Given as goal

abbrev pub invariant-loop-row : goal.invariant-loop-row
invariant-loop-row l = string_bytes l.text ≡ string_bytes l.fn.text ++ flat_map (row_text (rows_of l.rows)) (rows_of (take l.row-index l.rows))
