use Rattle.cbs_ready.proofs.Ordered.{rest_here}
use Rattle.cbs_ready.proofs.ready_list.ReadyList.remove_first.Goals as goal

pub returns-clause-gone : goal.returns-clause-gone
returns-clause-gone g c = λ s first. rw c.remove_first.ensures (rest_here s c.self.inside.entries c.self.invariant.0 (rw (← c.self.view_is) at first))
