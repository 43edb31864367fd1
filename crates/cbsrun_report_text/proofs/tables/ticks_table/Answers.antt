use Rattle.std.proofs.Common.{arith}
use Rattle.std.proofs.lemmas.Grind.{common_steps}
use Rattle.cbsrun_report_text.specs.Tables.{ticks_table}
use Rattle.cbsrun_report_text.proofs.tables.ticks_table.Goals as goal

pub returns : goal.returns
unfolding ticks_table
returns c = grind (arith, common_steps)

pub loop-server-preserved : goal.loop-server-preserved
unfolding ticks_table
loop-server-preserved c = grind (arith, common_steps)
