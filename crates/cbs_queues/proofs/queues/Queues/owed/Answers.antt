use Rattle.std.proofs.Common.{◌≡◌, ◌<◌, ◌≤◌, drop, length, slice_get, get_or, Some, arith, rules}
use Rattle.std.proofs.lemmas.List.{length-map}
use Rattle.std.specs.List.{sum_by}
use Rattle.cbs_queues.specs.Queues.{jobs_of, list_at}
use Rattle.cbs_queues.proofs.QueuedJobs.{jobs_here}
use Rattle.cbs_queues.proofs.UnitsTakenIn.{total_there, counted_at, behind_few, behind_first, owed_first}
use Rattle.cbs_queues.proofs.queues.Queues.owed.Given.{Over}
use Rattle.cbs_queues.proofs.queues.Queues.owed.Goals as goal

pub index-requires : goal.index-requires
index-requires g c =
    let queues = c.self.inside.jobs.lists in
    let is = rw (← c.self.view_is) at c.requires in
    let there = total_there g.W.Work.meaning queues c.self.inside.taken_in.items c.self.invariant c.args.server
    (omega (arith, is, length-map queues jobs_of)) in
    search rules

-- the units after the first job are those left there, which are few
behind : (g : Over) (c : goal.After-behind g)
    → (c.behind.result ≡ sum_by g.W.Work.meaning.left (jobs_of (drop 1 (list_at c.self.inside.jobs.lists c.args.server)))) × (c.behind.result ≤ 4096000000)
behind g c =
    let work = g.W.Work.meaning in
    let queues = c.self.inside.jobs.lists in
    let is = rw (← c.self.view_is) at c.requires in
    let within : c.args.server < length queues = omega (arith, is, length-map queues jobs_of) in
    let read : c.index.result.now ≡ get_or c.self.inside.taken_in.items c.args.server c.index.result.now = rw c.from-in-Some.ensures at c.index.ensures in
    let h = counted_at work queues c.self.inside.taken_in.items c.self.invariant c.args.server within c.index.result.now read in
    let found : slice_get (list_at queues c.args.server) 0 ≡ Some c.in-Some.first.now = search rules in
    let same = behind_first work (list_at queues c.args.server) c.index.result.now c.in-Some.first.now c.behind.result found
    c.behind.ensures c.behind.type_inv h in
    (same, rw same (behind_few work (list_at queues c.args.server) c.index.result.now h))

pub overflow_add-result : goal.overflow_add-result
overflow_add-result g c =
    let few = (behind g c).1 in
    omega (arith, c.from.ensures, c.left.type_inv)

pub returns-in-Some : goal.returns-in-Some
returns-in-Some g c =
    let work = g.W.Work.meaning in
    let queues = c.self.inside.jobs.lists in
    let found : slice_get (list_at queues c.args.server) 0 ≡ Some c.in-Some.first.now = search rules in
    let left : c.from.result ≡ work.left c.in-Some.first.now.job = omega (arith, c.from.ensures, c.left.ensures) in
    rw (← c.self.view_is, jobs_here queues c.args.server, left, (behind g c).0) (owed_first work (list_at queues c.args.server) c.in-Some.first.now found)
