use Rattle.std.proofs.Common.{◌≡◌, ◌∷◌, map, take}
use Rattle.cbsrun_text.specs.Columns.{rows_of}
use Rattle.cbsrun_report_text.specs.Tables.{ticks_heading, ticks_row}
use Rattle.cbsrun_report_text.proofs.tables.ticks_table.Given as goal

abbrev pub invariant-loop-server : goal.invariant-loop-server
invariant-loop-server l = rows_of l.table.items ≡ ticks_heading ∷ map (ticks_row l.report.tick l.report.clock) (take l.server-index l.server-items)
