use Rattle.std.proofs.Common.{arith}
use Rattle.std.proofs.lemmas.Grind.{common_steps}
use Rattle.cbsrun_svg.specs.Pictures.{drawn_text}
use Rattle.cbsrun_svg.proofs.picture.drawn_text.Goals as goal

pub returns : goal.returns
unfolding drawn_text
returns c = grind (arith, common_steps)
