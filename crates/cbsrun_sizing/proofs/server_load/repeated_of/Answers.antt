use Rattle.std.proofs.Common.{arith}
use Rattle.std.proofs.lemmas.Grind.{common_steps}
use Rattle.cbsrun_sizing.proofs.server_load.repeated_of.Goals as goal

pub loop-terms-init : goal.loop-terms-init
loop-terms-init c = grind (arith, common_steps)

pub loop-terms-preserved : goal.loop-terms-preserved
loop-terms-preserved c = grind (arith, common_steps)

pub returns : goal.returns
returns c = grind (arith, common_steps)
