use Rattle.std.proofs.Common.{arith}
use Rattle.std.proofs.lemmas.Grind.{common_steps}
use Rattle.cbsrun_svg_shapes.specs.Columns.{heights_of}
use Rattle.cbsrun_svg_shapes.proofs.columns.heights_of.Goals as goal

pub returns : goal.returns
unfolding heights_of
returns c = grind (arith, common_steps)

pub loop-cell-preserved : goal.loop-cell-preserved
unfolding heights_of
loop-cell-preserved c = grind (arith, common_steps)
