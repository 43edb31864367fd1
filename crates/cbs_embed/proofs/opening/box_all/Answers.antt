use Rattle.std.proofs.Common.{arith}
use Rattle.std.proofs.lemmas.Grind.{common_steps}
use Rattle.cbs_embed.proofs.opening.box_all.Goals as goal

pub loop-client-preserved : goal.loop-client-preserved
loop-client-preserved c = record {
  can = tt;
  finite = tt;
  count = grind (arith, common_steps);
  boxed = grind (arith, common_steps);
}
