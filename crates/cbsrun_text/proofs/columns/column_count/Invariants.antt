use Rattle.std.proofs.Common.{◌≤◌, All, length, take}
use Rattle.cbsrun_text.proofs.columns.column_count.Given as goal

abbrev pub invariant-loop-row : goal.invariant-loop-row
invariant-loop-row l = All (λ row. length row.items ≤ l.count) (take l.row-index l.rows)
