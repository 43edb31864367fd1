use Rattle.std.proofs.Common.{refl}
use Rattle.cbs_lists.proofs.Lists.{counted}
use Rattle.cbs_core.proofs.Agreements.{close_replied, close_agrees}
use Rattle.cbs_core.proofs.Cores.{core_closed}
use Rattle.cbs_core.proofs.Effects.{closed_server}
use Rattle.cbs_core.proofs.Refusals.{open_free}
use Rattle.cbs_steps.specs.declared.step.Step.TheVariants as step
use Rattle.cbs_core.proofs.LawfulCores.{makes_new}
use Rattle.cbs_core.proofs.executor.Core.close_open.Goals as goal

pub invariant_of-self : goal.invariant_of-self
invariant_of-self g c =
    core_closed c.self.invariant c.args.server (rw (← c.self.view_is) at c.requires).within c.close.ensures

pub returns-clause-closed : goal.returns-clause-closed
returns-clause-closed g c =
    closed_server c.self.view_is c.self.inside.clock c.self.inside.last c.close.new.self c.self.inside.queues.lists c.self.inside.queues.rooms
    c.args.server (rw (← c.self.view_is) at c.requires).within c.close.ensures refl

pub returns-clause-makes : goal.returns-clause-makes
returns-clause-makes g c =
    let free = open_free c.self.view_is c.args.server c.requires in
    makes_new _ c.self.view_is c.self.invariant (step.Close c.args.server) _ (invariant_of-self g c) (rw c.close.ensures (simp counted)) (λ M agrees.
    (close_replied c.self.view_is agrees c.args.server _ free, close_agrees c.self.view_is agrees c.args.server free c.close.ensures))
