use Rattle.std.proofs.Common.{◌≡◌, ◌<◌, length, get_or, refl, arith, rules}
use Rattle.std.proofs.lemmas.List.{length-map}
use Rattle.cbs_queues.specs.Queues.{jobs_of, list_at}
use Rattle.cbs_queues.proofs.QueuedJobs.{jobs_here, jobs_pushed}
use Rattle.cbs_queues.proofs.UnitsTakenIn.{total_there, all_joined}
use Rattle.cbs_queues.proofs.queues.Queues.push.Goals as goal

pub index-requires : goal.index-requires
index-requires g c =
    let queues = c.self.inside.jobs.lists in
    let is = rw (← c.self.view_is) at c.requires.within in
    let there = total_there g.W.Work.meaning queues c.self.inside.taken_in.items c.self.invariant c.args.server
    (omega (arith, is, length-map queues jobs_of)) in
    search rules

pub index_mut-requires : goal.index_mut-requires
index_mut-requires g c =
    let queues = c.self.inside.jobs.lists in
    let is = rw (← c.self.view_is) at c.requires.within in
    let there = total_there g.W.Work.meaning queues c.self.inside.taken_in.items c.self.invariant c.args.server
    (omega (arith, is, length-map queues jobs_of)) in
    search rules

pub invariant_of-self : goal.invariant_of-self
invariant_of-self g c =
    let work = g.W.Work.meaning in
    let queues = c.self.inside.jobs.lists in
    let totals = c.self.inside.taken_in.items in
    let is = rw (← c.self.view_is) at c.requires in
    let within : c.args.server < length queues = omega (arith, is.within, length-map queues jobs_of) in
    let read : c.index.result.now ≡ get_or totals c.args.server c.index.result.now = rw c.from.ensures at c.index.ensures in
    let few : length (list_at queues c.args.server) < 4096 =
    let n = rw (jobs_here queues c.args.server) at is.few in omega (arith, n, length-map (list_at queues c.args.server) (λ queued. queued.job)) in
    let units : c.from-units.result ≡ work.left c.args.task = omega (arith, c.from-units.ensures, c.left.ensures.value) in
    rw (c.push.ensures.lists, c.from-2.ensures, c.start-job.ensures.work, units)
    (all_joined work queues totals c.self.invariant c.args.server within c.index.result.now read _ refl
    (omega (arith, c.left.ensures.value, c.left.ensures.few)) few)

pub returns-clause-lists : goal.returns-clause-lists
returns-clause-lists g c =
    rw (← c.self.view_is, c.push.ensures.lists, c.start-job.ensures.work) (jobs_pushed c.self.inside.jobs.lists c.args.server _)
