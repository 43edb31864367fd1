use Rattle.cbs_ready.proofs.Ordered.{ordered-without, known-without, gone-without, others-without}
use Rattle.cbs_ready.proofs.ready_list.ReadyList.leave.Goals as goal

pub invariant_of-self : goal.invariant_of-self
invariant_of-self g c =
    let es = c.self.inside.entries in
    rw c.remove.ensures (ordered-without c.args.server es c.self.invariant.0, known-without 64 c.args.server es c.self.invariant.1)

pub returns-clause-ordered : goal.returns-clause-ordered
returns-clause-ordered g c = (invariant_of-self g c).0

pub returns-clause-gone : goal.returns-clause-gone
returns-clause-gone g c = rw c.remove.ensures (gone-without c.args.server c.self.inside.entries c.self.invariant.0)

pub returns-clause-others : goal.returns-clause-others
returns-clause-others g c = λ t ne. rw (← c.self.view_is, c.remove.ensures) (others-without c.args.server c.self.inside.entries t ne)
