use Rattle.std.proofs.Common.{arith}
use Rattle.std.proofs.lemmas.Grind.{common_steps}
use Rattle.cbs_queues.proofs.queues.Queues.front_output.Goals as goal

pub first-requires : goal.first-requires
first-requires g c = grind (arith, common_steps)

pub returns-in_err-first : goal.returns-in_err-first
returns-in_err-first g c = grind (arith, common_steps)

pub returns : goal.returns
returns g c = grind (arith, common_steps)
