use Rattle.std.proofs.Common.{arith}
use Rattle.std.proofs.lemmas.Grind.{common_steps}
use Rattle.cbs_house.proofs.service.rounds_for.Goals as goal

pub loop-feed-preserved : goal.loop-feed-preserved
loop-feed-preserved g c = grind (arith, common_steps)

pub returns : goal.returns
returns g c = grind (arith, common_steps)
