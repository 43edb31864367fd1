use Rattle.std.proofs.Common.{append_assoc}
use Rattle.cbsrun_svg_shapes.specs.Shapes.{box_text}
use Rattle.cbsrun_svg_shapes.proofs.shapes.append_box.Goals as goal

pub returns : goal.returns
unfolding box_text
returns c = simp append_assoc c.write.ensures.bytes
