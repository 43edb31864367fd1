use Rattle.std.proofs.Common.{append_assoc}
use Rattle.cbsrun_svg.specs.Pictures.{description_text}
use Rattle.cbsrun_svg.proofs.picture.append_description.Goals as goal

pub returns : goal.returns
unfolding description_text
returns c = simp append_assoc (simp (append_assoc, c.in_ok-append_sentences.ensures, c.deref.ensures.value, c.in_ok-writeln.ensures.bytes) at c.writeln-2.ensures.bytes)
