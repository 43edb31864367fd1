use Rattle.std.proofs.Common.{rules, arith, inr}
use Rattle.std.proofs.lemmas.Grind.{common_steps}
use Rattle.cbs_lists.proofs.Lists.{counted}
use Rattle.cbs_core.proofs.Agreements.{advance_agrees, advance_late, advance_none}
use Rattle.cbs_core.proofs.Cores.{core_jumped}
use Rattle.cbs_steps.specs.declared.step.Step.TheVariants as step
use Rattle.cbs_core.proofs.LawfulCores.{makes_still, makes_new}
use Rattle.cbs_core.proofs.executor.Core.advance.Goals as goal

pub invariant_of-self : goal.invariant_of-self
invariant_of-self g c = core_jumped c.self.invariant c.args.n (omega arith) c.replenish.ensures

pub returns-then-n-gt0-clause-makes : goal.returns-then-n-gt0-clause-makes
returns-then-n-gt0-clause-makes g c =
    makes_new _ c.self.view_is c.self.invariant (step.Advance c.args.n) _ (invariant_of-self g c) (rw c.replenish.ensures (simp counted)) (λ M agrees.
    (search (rules, common_steps), advance_agrees c.self.view_is agrees c.args.n (omega arith) (omega arith) c.replenish.ensures))

pub returns-else-n-gt0-clause-makes : goal.returns-else-n-gt0-clause-makes
returns-else-n-gt0-clause-makes g c = makes_still _ c.self.view_is c.self.invariant (step.Advance c.args.n) _ (λ M agrees. inr (λ s. tt)) (λ M agrees.
    (search (rules, common_steps), advance_none c.self.view_is agrees c.args.n (omega arith)))

pub returns-then-n-self-clause-makes : goal.returns-then-n-self-clause-makes
returns-then-n-self-clause-makes g c = makes_still _ c.self.view_is c.self.invariant (step.Advance c.args.n) _ (λ M agrees. inr (λ s. tt))
    (λ M agrees. advance_late c.self.view_is agrees c.args.n c.if-n-self.true)

pub returns-then-n-gt0-clause-jobs : goal.returns-then-n-gt0-clause-jobs
returns-then-n-gt0-clause-jobs g c = grind (arith, common_steps)
