use Rattle.std.proofs.Common.{append_assoc}
use Rattle.cbsrun_svg.specs.Heads.{came_text}
use Rattle.cbsrun_svg.proofs.head.append_came.Goals as goal

pub returns : goal.returns
unfolding came_text
returns c = simp append_assoc c.writeln.ensures.bytes
