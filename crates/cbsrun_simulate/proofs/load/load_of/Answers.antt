use Rattle.std.proofs.Common.{arith}
use Rattle.std.proofs.lemmas.Grind.{common_steps}
use Rattle.cbsrun_simulate.proofs.load.load_of.Goals as goal

pub loop-place-init : goal.loop-place-init
loop-place-init g c = grind (arith, common_steps)

pub overflow_cast-place : goal.overflow_cast-place
overflow_cast-place g c = grind (arith, common_steps)

pub new-requires-clause-lawful : goal.new-requires-clause-lawful
new-requires-clause-lawful g c = grind (arith, common_steps)

pub loop-place-preserved : goal.loop-place-preserved
loop-place-preserved g c = grind (arith, common_steps)

pub returns : goal.returns
returns g c = grind (arith, common_steps)
