use Rattle.std.proofs.Common.{append_assoc}
use Rattle.cbsrun_svg.specs.Pictures.{page_text}
use Rattle.cbsrun_svg.proofs.picture.append_page.Goals as goal

pub returns : goal.returns
unfolding page_text
returns c = simp append_assoc c.writeln.ensures.bytes
