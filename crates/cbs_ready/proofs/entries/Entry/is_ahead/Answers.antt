use Rattle.std.proofs.Common.{rules}
use Rattle.cbs_ready.proofs.entries.Entry.is_ahead.Goals as goal

pub returns-then-self-other : goal.returns-then-self-other
returns-then-self-other c = search rules

pub returns-then-self-other-2 : goal.returns-then-self-other-2
returns-then-self-other-2 c = search rules

pub returns-else-self-other-2 : goal.returns-else-self-other-2
returns-else-self-other-2 c = search rules
