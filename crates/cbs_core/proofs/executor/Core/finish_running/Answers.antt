use Rattle.std.proofs.Common.{arith, refl}
use Rattle.cbs_core.proofs.Agreements.{ended_agrees}
use Rattle.cbs_core.proofs.Cores.{core_ended, may_end_there, backlog_at, queue_count}
use Rattle.cbs_core.proofs.EndedCores.{ended_on_time, ended_paced, ended_job}
use Rattle.cbs_core.proofs.executor.Core.finish_running.Goals as goal

pub end_first-result-requires : goal.end_first-result-requires
end_first-result-requires g c =
    let there = may_end_there c.self.invariant c.args.server (rw (← c.self.view_is) at c.requires) in
    let count = (backlog_at c.self.invariant c.args.server there.0).counted in
    let active = there.1.active in
    omega arith

pub invariant_of-self : goal.invariant_of-self
invariant_of-self g c = core_ended c.self.invariant c.args.server (rw (← c.self.view_is) at c.requires) c.end_job.ensures c.end_first-result.ensures.lists

pub returns-clause-hindsight : goal.returns-clause-hindsight
returns-clause-hindsight g c = λ cut law M agrees. ended_agrees c.self.view_is agrees c.self.invariant c.args.server (rw (← c.self.view_is) at c.requires) cut law
    c.end_job.ensures c.end_first-result.ensures.lists

pub returns-clause-job : goal.returns-clause-job
returns-clause-job g c =
    let there = may_end_there c.self.invariant c.args.server (rw (← c.self.view_is) at c.requires) in
    let n = queue_count c.self.invariant in
    ended_job c.self.view_is c.end_first-result.new.self.lists c.end_job.new.self c.end_first-result.new.self.rooms c.args.server c.end_job.ensures c.end_first-result.ensures.lists
    g.W.Work.meaning _ there.0 (let lt = there.0 in omega arith) refl c.finished-seq.ensures c.end_first-result.ensures.output

pub returns-clause-same : goal.returns-clause-same
returns-clause-same g c = rw (← c.self.view_is, c.end_job.ensures, c.end_first-result.ensures.lists) refl

pub returns-clause-on_time : goal.returns-clause-on_time
returns-clause-on_time g c = λ on. rw c.end_job.ensures (ended_on_time c.self.inside.clock c.self.inside.servers c.args.server (rw (← c.self.view_is) at on))

pub returns-clause-paced : goal.returns-clause-paced
returns-clause-paced g c = λ on. ended_paced c.self.view_is c.end_first-result.new.self.lists c.end_job.new.self c.end_first-result.new.self.rooms c.args.server
    c.end_job.ensures c.end_first-result.ensures.lists (rw (← c.self.view_is) at c.requires) on
