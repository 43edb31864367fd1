use Rattle.std.proofs.Common.{arith}
use Rattle.std.proofs.lemmas.Grind.{common_steps}
use Rattle.cbsrun_svg_shapes.specs.Spans.{number_text}
use Rattle.cbsrun_svg_shapes.proofs.spans.append_number.Goals as goal

pub returns : goal.returns
unfolding number_text
returns c = grind (arith, common_steps)
