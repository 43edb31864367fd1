use Rattle.std.proofs.Common.{arith}
use Rattle.std.proofs.lemmas.Grind.{common_steps}
use Rattle.cbsrun_svg_shapes.specs.Marks.{refused_path}
use Rattle.cbsrun_svg_shapes.proofs.marks.append_refused.Goals as goal

pub returns : goal.returns
unfolding refused_path
returns c = grind (arith, common_steps)

pub loop-stretch-preserved : goal.loop-stretch-preserved
unfolding refused_path
loop-stretch-preserved c = grind (arith, common_steps)
