use Rattle.std.proofs.Common.{append_assoc}
use Rattle.cbsrun_perfetto.specs.Events.{between_text}
use Rattle.cbsrun_perfetto.proofs.events.between_text.Goals as goal

pub returns : goal.returns
unfolding between_text
returns c = simp append_assoc (simp (append_assoc, c.in_ok-name.ensures) at c.format.ensures.ok)
