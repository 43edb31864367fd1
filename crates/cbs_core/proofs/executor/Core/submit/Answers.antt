use Rattle.std.proofs.Common.{refl, rules}
use Rattle.std.proofs.lemmas.Grind.{common_steps}
use Rattle.cbs_core.proofs.Agreements.{refused_still, submit_replied, submit_left, submit_accepted}
use Rattle.cbs_core.proofs.Cores.{queue_there, budgets_kept}
use Rattle.cbs_core.proofs.Refusals.{free_accepts, accepts_free, refusal_named}
use Rattle.cbs_steps.specs.declared.step.Step.TheVariants as step
use Rattle.cbs_core.proofs.Calls.{makes_same}
use Rattle.cbs_core.proofs.LawfulCores.{makes_still}
use Rattle.cbs_core.proofs.executor.Core.submit.Goals as goal

pub returns-in-Some-clause-succeeds : goal.returns-in-Some-clause-succeeds
returns-in-Some-clause-succeeds g c = λ place.
    let refused = c.in-Some.ensures in
    let free = accepts_free c.self.view_is c.args.server place.accepts in
    cc

pub reserve-requires : goal.reserve-requires
reserve-requires g c = queue_there c.self.invariant c.args.server c.in_default.ensures

pub submit_reserved-requires : goal.submit_reserved-requires
submit_reserved-requires g c =
    record { accepts = free_accepts refl c.args.server c.in_default.ensures; room = search rules }

pub returns-in-Some-clause-tries : goal.returns-in-Some-clause-tries
returns-in-Some-clause-tries g c = rw (refusal_named c.self.view_is c.args.server c.in-Some.error c.in-Some.ensures)
    (makes_still _ c.self.view_is c.self.invariant (step.Submit c.args.server c.args.task) _
    (λ M agrees. refused_still c.self.view_is agrees c.args.server c.args.task _ c.in-Some.ensures) (λ M agrees. (
      submit_replied c.self.view_is agrees c.args.server c.args.task _ c.in-Some.ensures,
      submit_left c.self.view_is agrees c.args.server c.args.task _ c.in-Some.ensures,
    )))

pub returns-then-is_err-clause-tries : goal.returns-then-is_err-clause-tries
returns-then-is_err-clause-tries g c = record {
  back = refl;
  accepted = λ M agrees. submit_accepted c.self.view_is agrees c.args.server c.args.task c.in_default.ensures;
  same = search (rules, common_steps);
  budgets = budgets_kept c.self.invariant;
}

pub returns-clause-tries : goal.returns-clause-tries
returns-clause-tries g c = makes_same _ _ _ _ _ _ (search (rules, common_steps)) c.submit_reserved.ensures.makes
