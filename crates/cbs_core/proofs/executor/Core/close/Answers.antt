use Rattle.std.proofs.Common.{arith, inr}
use Rattle.std.proofs.lemmas.Grind.{elements}
use Rattle.cbs_steps.specs.declared.step.Step.TheVariants as step
use Rattle.cbs_core.proofs.Agreements.{close_replied, close_left}
use Rattle.cbs_core.proofs.LawfulCores.{makes_still}
use Rattle.cbs_core.proofs.Refusals.{open_free}
use Rattle.cbs_core.proofs.executor.Core.close.Goals as goal

pub returns-in-Some-clause-succeeds : goal.returns-in-Some-clause-succeeds
returns-in-Some-clause-succeeds g c = λ is.
    let refused = c.in-Some.ensures in
    let free = open_free c.self.view_is c.args.server is in
    cc

pub returns-in-Some-clause-makes : goal.returns-in-Some-clause-makes
returns-in-Some-clause-makes g c = makes_still _ c.self.view_is c.self.invariant (step.Close c.args.server) _ (λ M agrees. inr (λ s. tt))
    (λ M agrees. (close_replied c.self.view_is agrees c.args.server _ c.in-Some.ensures, close_left c.self.view_is agrees c.args.server _ c.in-Some.ensures))

pub close_open-requires : goal.close_open-requires
close_open-requires g c = grind (arith, elements)
