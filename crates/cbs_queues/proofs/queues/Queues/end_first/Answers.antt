use Rattle.cbs_queues.proofs.QueuedJobs.{jobs_popped}
use Rattle.cbs_queues.proofs.UnitsTakenIn.{all_popped}
use Rattle.cbs_queues.proofs.queues.Queues.end_first.Goals as goal

pub invariant_of-self : goal.invariant_of-self
invariant_of-self g c = rw c.pop.ensures.lists
    (all_popped g.W.Work.meaning c.self.inside.jobs.lists c.self.inside.taken_in.items c.self.invariant c.args.server)

pub returns-clause-lists : goal.returns-clause-lists
returns-clause-lists g c = rw (← c.self.view_is, c.pop.ensures.lists) (jobs_popped c.self.inside.jobs.lists c.args.server)
