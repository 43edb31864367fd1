use Rattle.std.proofs.Common.{◌≡◌, take}
use Rattle.cbsrun_text.specs.Columns.{rows_of, width_of}
use Rattle.cbsrun_text.proofs.columns.width_of.Given as goal

abbrev pub invariant-loop-row : goal.invariant-loop-row
invariant-loop-row l = l.width ≡ width_of l.column (rows_of (take l.row-index l.rows))
