use Rattle.std.proofs.Common.{append_assoc}
use Rattle.cbsrun_svg.specs.Pictures.{opening_text}
use Rattle.cbsrun_svg.proofs.picture.append_opening.Goals as goal

pub returns : goal.returns
unfolding opening_text
returns c = simp append_assoc c.writeln.ensures.bytes
