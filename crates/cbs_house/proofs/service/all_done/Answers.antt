use Rattle.std.proofs.Common.{arith}
use Rattle.std.proofs.lemmas.Grind.{common_steps}
use Rattle.cbs_house.proofs.service.all_done.Goals as goal

pub loop-feed-preserved : goal.loop-feed-preserved
loop-feed-preserved g c = grind (arith, common_steps)
