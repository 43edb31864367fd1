use Rattle.std.proofs.Common.{arith}
use Rattle.std.proofs.lemmas.Grind.{common_steps}
use Rattle.cbs_guarantee.proofs.guarantee.backlog_needed.Goals as goal

pub loop-source-init : goal.loop-source-init
loop-source-init c = grind (arith, common_steps)

pub loop-source-preserved : goal.loop-source-preserved
loop-source-preserved c = record { sum = grind (arith, common_steps); few = grind (arith, common_steps) }
