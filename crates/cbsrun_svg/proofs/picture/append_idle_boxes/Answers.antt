use Rattle.std.proofs.Common.{arith}
use Rattle.std.proofs.lemmas.Grind.{common_steps}
use Rattle.cbsrun_svg.specs.Pictures.{idle_boxes}
use Rattle.cbsrun_svg.proofs.picture.append_idle_boxes.Goals as goal

pub returns : goal.returns
unfolding idle_boxes
returns c = grind (arith, common_steps)

pub loop-stretch-preserved : goal.loop-stretch-preserved
unfolding idle_boxes
loop-stretch-preserved c = grind (arith, common_steps)
