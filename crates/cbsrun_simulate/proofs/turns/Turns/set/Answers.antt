use Rattle.std.proofs.Common.{arith}
use Rattle.std.proofs.lemmas.Grind.{common_steps}
use Rattle.cbsrun_simulate.proofs.turns.Turns.set.Goals as goal

pub loop-node-init : goal.loop-node-init
loop-node-init g c = grind (arith, common_steps)

pub invariant_of-self : goal.invariant_of-self
invariant_of-self g c = grind (arith, common_steps)

pub loop-node-preserved : goal.loop-node-preserved
loop-node-preserved g c = grind (arith, common_steps)

pub returns : goal.returns
returns g c = grind (arith, common_steps)
