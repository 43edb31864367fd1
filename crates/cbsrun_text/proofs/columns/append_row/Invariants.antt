use Rattle.std.proofs.Common.{◌≡◌, ◌++◌, List, string_bytes}
use Rattle.std.specs.List.{flat_map, range_with_len}
use Rattle.cbsrun_text.specs.Columns.{CellText, AreWidths, cell_text}
use Rattle.cbsrun_text.proofs.columns.append_row.Given as goal

abbrev pub invariant-loop-column : goal.invariant-loop-column
invariant-loop-column l = (rows : List (List CellText)) → AreWidths rows l.widths
    → string_bytes l.text ≡ string_bytes l.fn.text ++ flat_map (cell_text rows l.row) (range_with_len 0 l.column)
