use Rattle.std.proofs.Common.{◌+◌, arith, refl}
use Rattle.cbs_lists.proofs.Lists.{counted}
use Rattle.cbs_core.specs.Held.{charged_at}
use Rattle.cbs_core.proofs.Agreements.{charge_agrees, charge_answered}
use Rattle.cbs_core.proofs.Cores.{core_charged, charged_may, may_charge, running_there}
use Rattle.cbs_core.proofs.Effects.{charged_same}
use Rattle.cbs_steps.specs.declared.step.Step.TheVariants as step
use Rattle.cbs_core.proofs.LawfulCores.{makes_new}
use Rattle.cbs_core.proofs.executor.Core.charge_running.Goals as goal

pub charge-for_unit-requires : goal.charge-for_unit-requires
charge-for_unit-requires g c =
    let early = rw (← c.self.view_is) at c.requires.clock in
    let few = c.self.invariant.last.few in
    let clock = c.self.invariant.clock in
    record { clock = omega arith; few = omega arith }

pub charge-requires : goal.charge-requires
charge-requires g c =
    let runs = rw (← c.self.view_is) at c.requires.running in
    let early = rw (← c.self.view_is) at c.requires.clock in
    let there = running_there c.self.invariant c.args.server runs in
    record { within = there; may = may_charge c.self.invariant c.args.server c.args.ticks there runs c.requires.some early; clock = early }

pub invariant_of-self : goal.invariant_of-self
invariant_of-self g c =
    let runs = rw (← c.self.view_is) at c.requires.running in
    let early = rw (← c.self.view_is) at c.requires.clock in
    let for_unit = charged_at c.self.inside.clock c.self.inside.last + c.args.ticks in
    rw c.charge-for_unit.ensures.kept (core_charged c.self.invariant c.args.server c.args.ticks for_unit refl (running_there c.self.invariant c.args.server runs) runs
    c.requires.some early (rw c.charge-for_unit.ensures.charged at c.charge.ensures))

pub returns-clause-makes : goal.returns-clause-makes
returns-clause-makes g c =
    let runs = rw (← c.self.view_is) at c.requires.running in
    let early = rw (← c.self.view_is) at c.requires.clock in
    let there = running_there c.self.invariant c.args.server runs in
    let for_unit = charged_at c.self.inside.clock c.self.inside.last + c.args.ticks in
    makes_new _ c.self.view_is c.self.invariant (step.Charge c.args.server c.args.ticks) _ (invariant_of-self g c) (rw c.charge.ensures (simp counted)) (λ M agrees. (
      charge_answered c.self.view_is agrees c.args.server c.args.ticks there runs early,
      rw c.charge-for_unit.ensures.kept (charge_agrees c.self.view_is agrees c.args.server c.args.ticks there runs early for_unit refl c.requires.some
          c.self.invariant.last (rw c.charge-for_unit.ensures.charged at c.charge.ensures)),
    ))

pub returns-clause-jobs : goal.returns-clause-jobs
returns-clause-jobs g c = charged_same c.self.view_is (c.self.inside.clock + c.args.ticks) c.charge-for_unit.new.self c.charge.new.self c.self.inside.queues.lists c.self.inside.queues.rooms
    (c.self.inside.clock + c.args.ticks) c.args.ticks c.charge-for_unit.result c.args.server c.charge.ensures refl

pub returns-clause-ends : goal.returns-clause-ends
returns-clause-ends g c = λ t.
    let runs = rw (← c.self.view_is) at c.requires.running in
    rw (← c.self.view_is, c.charge-for_unit.ensures.kept) (charged_may c.self.invariant c.args.server c.args.ticks c.charge-for_unit.new.self.charged c.charge.new.self c.self.inside.queues.lists c.self.inside.queues.rooms
    runs c.requires.some t)
