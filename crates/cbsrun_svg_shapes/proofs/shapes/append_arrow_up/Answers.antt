use Rattle.std.proofs.Common.{append_assoc}
use Rattle.cbsrun_svg_shapes.specs.Shapes.{arrow_up_text}
use Rattle.cbsrun_svg_shapes.proofs.shapes.append_arrow_up.Goals as goal

pub returns : goal.returns
unfolding arrow_up_text
returns c = simp append_assoc (simp append_assoc at c.write.ensures.bytes)
