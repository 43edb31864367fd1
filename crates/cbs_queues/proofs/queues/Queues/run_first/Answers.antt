use Rattle.std.proofs.Common.{refl, drop, map, ap, ◌∙◌, arith}
use Rattle.std.proofs.lemmas.Grind.{common_steps}
use Rattle.cbs_lists.specs.Lists.{changed_at}
use Rattle.cbs_queues.specs.Queues.{jobs_of}
use Rattle.cbs_queues.proofs.QueuedJobs.{job_first, jobs_stepped, jobs_popped}
use Rattle.cbs_queues.proofs.QueueRuns.{job_stays, job_leaves}
use Rattle.cbs_queues.proofs.UnitsTakenIn.{all_stepped, all_popped}
use Rattle.cbs_queues.proofs.queues.Queues.run_first.Goals as goal

pub invariant_of-self : goal.invariant_of-self
invariant_of-self g c =
    all_stepped g.W.Work.meaning c.self.inside.jobs.lists c.self.inside.taken_in.items c.self.invariant c.args.server _ _ c.first_mut.ensures.value refl

pub invariant_of-self-2 : goal.invariant_of-self-2
invariant_of-self-2 g c =
    rw (c.pop.ensures.lists)
    (all_popped g.W.Work.meaning _ c.self.inside.taken_in.items
    (all_stepped g.W.Work.meaning c.self.inside.jobs.lists c.self.inside.taken_in.items c.self.invariant c.args.server _ _ c.first_mut.ensures.value refl)
    c.args.server)

pub returns-then-left-gt0-clause-lists : goal.returns-then-left-gt0-clause-lists
returns-then-left-gt0-clause-lists g c =
    let queues = c.self.inside.jobs.lists in
    rw (← c.self.view_is)
    (jobs_stepped queues c.args.server _
    ∙ job_stays g.W.Work.meaning (map jobs_of queues) c.args.server _ _ _ (job_first queues c.args.server _ c.first_mut.ensures.value)
    c.step.ensures.after (omega arith))

pub returns-clause-lists : goal.returns-clause-lists
returns-clause-lists g c =
    let queues = c.self.inside.jobs.lists in
    rw (← c.self.view_is, c.pop.ensures.lists)
    (jobs_popped _ c.args.server
    ∙ ap (λ lists. changed_at (drop 1) lists c.args.server) (jobs_stepped queues c.args.server _)
    ∙ job_leaves g.W.Work.meaning (map jobs_of queues) c.args.server _ _ _ (job_first queues c.args.server _ c.first_mut.ensures.value)
    c.step.ensures.after (omega arith))

pub first_mut-requires : goal.first_mut-requires
first_mut-requires g c = grind (arith, common_steps)

pub step-requires : goal.step-requires
step-requires g c = grind (arith, common_steps)

pub returns-then-left-gt0-clause-result : goal.returns-then-left-gt0-clause-result
returns-then-left-gt0-clause-result g c = grind (arith, common_steps)

pub returns-clause-result : goal.returns-clause-result
returns-clause-result g c = grind (arith, common_steps)
