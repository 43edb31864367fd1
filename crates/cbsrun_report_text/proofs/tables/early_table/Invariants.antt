use Rattle.std.proofs.Common.{◌≡◌, ◌∷◌, map, take}
use Rattle.cbsrun_text.specs.Columns.{rows_of}
use Rattle.cbsrun_report_text.specs.Tables.{early_heading, early_row}
use Rattle.cbsrun_report_text.proofs.tables.early_table.Given as goal

abbrev pub invariant-loop-server : goal.invariant-loop-server
invariant-loop-server l = rows_of l.table.items ≡ early_heading ∷ map (early_row l.tick) (take l.server-index l.servers)
