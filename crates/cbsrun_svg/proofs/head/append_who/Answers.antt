use Rattle.std.proofs.Common.{append_assoc}
use Rattle.cbsrun_svg.specs.Heads.{who_text}
use Rattle.cbsrun_svg.proofs.head.append_who.Goals as goal

pub returns : goal.returns
unfolding who_text
returns c = simp append_assoc (simp (append_assoc, c.in_ok-write.ensures.bytes) at c.append_was_charged.ensures)
