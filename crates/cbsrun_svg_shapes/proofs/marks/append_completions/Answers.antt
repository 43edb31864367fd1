use Rattle.std.proofs.Common.{arith}
use Rattle.std.proofs.lemmas.Grind.{common_steps}
use Rattle.cbsrun_svg_shapes.specs.Marks.{completions_path}
use Rattle.cbsrun_svg_shapes.proofs.marks.append_completions.Goals as goal

pub returns : goal.returns
unfolding completions_path
returns c = grind (arith, common_steps)

pub loop-tick-preserved : goal.loop-tick-preserved
unfolding completions_path
loop-tick-preserved c = grind (arith, common_steps)
