use Rattle.std.proofs.Common.{arith}
use Rattle.std.proofs.lemmas.Grind.{common_steps}
use Rattle.cbsrun_svg_shapes.specs.Marks.{arrivals_path}
use Rattle.cbsrun_svg_shapes.proofs.marks.append_arrivals.Goals as goal

pub returns : goal.returns
unfolding arrivals_path
returns c = grind (arith, common_steps)

pub loop-tick-preserved : goal.loop-tick-preserved
unfolding arrivals_path
loop-tick-preserved c = grind (arith, common_steps)
