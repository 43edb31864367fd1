use Rattle.std.proofs.Common.{◌≡◌, take}
use Rattle.cbsrun_text.specs.Columns.{rows_of}
use Rattle.cbsrun_check_text.specs.Tables.{sources_table}
use Rattle.cbsrun_check_text.proofs.sources.rows.Given as goal

abbrev pub invariant-loop-terms : goal.invariant-loop-terms
invariant-loop-terms l = rows_of l.rows.items ≡ sources_table l.load.tick l.load.names l.load.plan.rates l.loads (take l.terms-index l.load.sources)
