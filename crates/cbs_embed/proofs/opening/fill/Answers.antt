use Rattle.std.proofs.Common.{arith}
use Rattle.std.proofs.lemmas.Grind.{common_steps}
use Rattle.cbs_embed.proofs.opening.fill.Goals as goal

pub loop-handle-preserved : goal.loop-handle-preserved
loop-handle-preserved c = record {
  filled = grind (arith, common_steps);
  left = grind (arith, common_steps);
}
