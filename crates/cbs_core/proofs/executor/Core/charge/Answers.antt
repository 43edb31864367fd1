use Rattle.std.proofs.Common.{arith, sym, ◌∙◌, inr}
use Rattle.cbs_steps.specs.declared.step.Step.TheVariants as step
use Rattle.cbs_core.proofs.Agreements.{charge_stranger, charge_idle, charge_late, charge_answered, charge_still}
use Rattle.cbs_core.proofs.LawfulCores.{makes_still}
use Rattle.cbs_core.proofs.executor.Core.charge.Goals as goal

pub charge_running-requires : goal.charge_running-requires
charge_running-requires g c =
    let runs = sym c.is_of.ensures ∙ c.if-not-is_of.false in
    rw (← c.self.view_is) record { running = runs; some = c.if-ticks-gt0.true; clock = let k = c.self.invariant.clock in omega (arith, c.if-ticks-self.false) }

pub returns-then-server-len-clause-makes : goal.returns-then-server-len-clause-makes
returns-then-server-len-clause-makes g c =
    makes_still _ c.self.view_is c.self.invariant (step.Charge c.args.server c.args.ticks) _ (λ M agrees. inr (λ s. tt)) (λ M agrees. charge_stranger c.self.view_is agrees c.args.server c.args.ticks (omega arith))

pub returns-then-not-is_of-clause-makes : goal.returns-then-not-is_of-clause-makes
returns-then-not-is_of-clause-makes g c =
    let idle = sym c.is_of.ensures ∙ c.if-not-is_of.true in
    makes_still _ c.self.view_is c.self.invariant (step.Charge c.args.server c.args.ticks) _ (λ M agrees. inr (λ s. tt)) (λ M agrees.
    charge_idle c.self.view_is agrees c.args.server c.args.ticks (omega arith) idle)

pub returns-then-ticks-self-clause-makes : goal.returns-then-ticks-self-clause-makes
returns-then-ticks-self-clause-makes g c =
    let runs = sym c.is_of.ensures ∙ c.if-not-is_of.false in
    let late = c.if-ticks-self.true in
    makes_still _ c.self.view_is c.self.invariant (step.Charge c.args.server c.args.ticks) _ (λ M agrees. inr (λ s. tt)) (λ M agrees.
    charge_late c.self.view_is agrees c.args.server c.args.ticks (omega arith) runs (omega arith))

pub returns-else-ticks-gt0-clause-makes : goal.returns-else-ticks-gt0-clause-makes
returns-else-ticks-gt0-clause-makes g c =
    let runs = sym c.is_of.ensures ∙ c.if-not-is_of.false in
    let none = c.if-ticks-gt0.false in
    let clock = c.self.invariant.clock in
    makes_still _ c.self.view_is c.self.invariant (step.Charge c.args.server c.args.ticks) _ (λ M agrees. inr (λ s. tt)) (λ M agrees. (
      charge_answered c.self.view_is agrees c.args.server c.args.ticks (omega arith) runs (omega arith),
      charge_still c.self.view_is agrees c.args.server c.args.ticks (omega arith) runs (omega arith) (omega arith),
    ))
