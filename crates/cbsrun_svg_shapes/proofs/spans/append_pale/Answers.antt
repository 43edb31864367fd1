use Rattle.std.proofs.Common.{arith}
use Rattle.std.proofs.lemmas.Grind.{common_steps}
use Rattle.cbsrun_svg_shapes.specs.Spans.{pale_path}
use Rattle.cbsrun_svg_shapes.proofs.spans.append_pale.Goals as goal

pub returns : goal.returns
unfolding pale_path
returns c = grind (arith, common_steps)

pub loop-span-preserved : goal.loop-span-preserved
unfolding pale_path
loop-span-preserved c = grind (arith, common_steps)
