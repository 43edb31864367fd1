use Rattle.cbs_lists.proofs.Lists.{counted}
use Rattle.cbs_core.proofs.Agreements.{submit_answered, submit_agrees}
use Rattle.cbs_core.proofs.Cores.{core_joined, few_held, queue_there}
use Rattle.cbs_core.proofs.Effects.{took_job}
use Rattle.cbs_core.proofs.Refusals.{accepts_free}
use Rattle.cbs_steps.specs.declared.step.Step.TheVariants as step
use Rattle.cbs_core.proofs.LawfulCores.{makes_new}
use Rattle.cbs_core.proofs.executor.Core.submit_reserved.Goals as goal

pub push-requires : goal.push-requires
push-requires g c =
    let is = rw (← c.self.view_is) at c.requires in
    let free = accepts_free c.self.view_is c.args.server c.requires.accepts in
    record { within = queue_there c.self.invariant c.args.server free; room = is.room; few = few_held c.self.invariant c.args.server is.accepts }

pub invariant_of-self : goal.invariant_of-self
invariant_of-self g c =
    let is = rw (← c.self.view_is) at c.requires in
    rw c.join.ensures (core_joined c.self.invariant c.args.server c.args.task {queues = c.push.new.self.lists} is.accepts c.push.ensures.some
    c.accept.ensures.servers c.push.ensures.lists)

pub returns-clause-job : goal.returns-clause-job
returns-clause-job g c =
    let is = rw (← c.self.view_is) at c.requires in
    let free = accepts_free c.self.view_is c.args.server c.requires.accepts in
    let queue = queue_there c.self.invariant c.args.server free in
    took_job c.self.view_is c.self.inside.clock c.join.new.self c.accept.new.self c.push.new.self.lists c.push.new.self.rooms
    c.args.server c.accept.result c.args.task is.accepts.is_open.within queue c.accept.ensures.number c.accept.ensures.servers c.push.ensures.lists

pub returns-clause-makes : goal.returns-clause-makes
returns-clause-makes g c =
    let is = rw (← c.self.view_is) at c.requires in
    let free = accepts_free c.self.view_is c.args.server c.requires.accepts in
    makes_new _ c.self.view_is c.self.invariant (step.Submit c.args.server c.args.task) _ (invariant_of-self g c)
    (rw c.accept.ensures.servers (simp counted)) (λ M agrees. (
      submit_answered c.self.view_is agrees c.args.server c.args.task free c.accept.result c.accept.ensures.number,
      rw c.join.ensures (submit_agrees c.self.view_is agrees c.args.server c.args.task free {queues = c.push.new.self.lists} is.accepts.is_open.within
          c.accept.ensures.servers c.push.ensures.lists c.push.ensures.some),
    ))
