use Rattle.std.proofs.Common.{◌≡◌, ◌∷◌, map, take}
use Rattle.cbsrun_text.specs.Columns.{rows_of}
use Rattle.cbsrun_report_text.specs.Tables.{jobs_heading, jobs_row}
use Rattle.cbsrun_report_text.proofs.tables.jobs_table.Given as goal

abbrev pub invariant-loop-server : goal.invariant-loop-server
invariant-loop-server l = rows_of l.table.items ≡ jobs_heading ∷ map (jobs_row l.report.backlog) (take l.server-index l.server-items)
