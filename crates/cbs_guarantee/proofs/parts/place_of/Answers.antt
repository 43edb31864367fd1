use Rattle.std.proofs.Common.{arith}
use Rattle.std.proofs.lemmas.Grind.{common_steps}
use Rattle.cbs_guarantee.proofs.parts.place_of.Goals as goal

pub loop-index-init : goal.loop-index-init
loop-index-init c = grind (arith, common_steps)

pub loop-index-preserved : goal.loop-index-preserved
loop-index-preserved c = grind (arith, common_steps)

pub returns-clause-value : goal.returns-clause-value
returns-clause-value c = grind (arith, common_steps)
