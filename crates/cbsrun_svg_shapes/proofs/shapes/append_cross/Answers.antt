use Rattle.std.proofs.Common.{append_assoc}
use Rattle.cbsrun_svg_shapes.specs.Shapes.{cross_text}
use Rattle.cbsrun_svg_shapes.proofs.shapes.append_cross.Goals as goal

pub returns : goal.returns
unfolding cross_text
returns c = simp append_assoc (simp (append_assoc, c.saturating_sub-left.ensures) at c.write.ensures.bytes)
