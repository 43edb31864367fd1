use Rattle.std.proofs.Common.{arith}
use Rattle.std.proofs.lemmas.Grind.{common_steps}
use Rattle.cbsrun_svg_shapes.specs.Marks.{deadlines_path}
use Rattle.cbsrun_svg_shapes.proofs.marks.append_deadlines.Goals as goal

pub returns : goal.returns
unfolding deadlines_path
returns c = grind (arith, common_steps)

pub loop-tick-preserved : goal.loop-tick-preserved
unfolding deadlines_path
loop-tick-preserved c = grind (arith, common_steps)
