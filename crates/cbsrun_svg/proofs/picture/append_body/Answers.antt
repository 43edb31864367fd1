use Rattle.std.proofs.Common.{arith}
use Rattle.std.proofs.lemmas.Grind.{common_steps}
use Rattle.cbsrun_svg.specs.Pictures.{body_text}
use Rattle.cbsrun_svg.proofs.picture.append_body.Goals as goal

pub returns : goal.returns
unfolding body_text
returns c = grind (arith, common_steps)
