use Rattle.std.proofs.Common.{append_assoc}
use Rattle.cbsrun_perfetto.proofs.marks.named_end.Goals as goal

pub returns : goal.returns
returns c = simp append_assoc (simp (c.deref.ensures, c.in_ok-name.ensures.ok) at c.instant_line.ensures)
