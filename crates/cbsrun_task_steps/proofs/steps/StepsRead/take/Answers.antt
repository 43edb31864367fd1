use Rattle.std.proofs.Common.{◌≡◌, true, false, is_some, Err, inl, inr, arith}
use Rattle.std.proofs.lemmas.Grind.{common_steps}
use Rattle.toml.specs.View.{view}
use Rattle.cbsrun_task_steps.specs.Entries.{step_entry}
use Rattle.cbsrun_task_steps.proofs.MoreSteps.{after_fault, first_fault}
use Rattle.cbsrun_task_steps.proofs.steps.StepsRead.take.Goals as goal

pub returns-in_ok-keep-in-Ok-clause-took : goal.returns-in_ok-keep-in-Ok-clause-took
returns-in_ok-keep-in-Ok-clause-took c ds h =
    c.in_ok-keep-in-Ok.ensures.kept c.args.terms (view c.args.entry.now) c.in-Ok.ensures.step c.in-Ok.ensures.named ds h

pub returns-then-is_none-clause-took : goal.returns-then-is_none-clause-took
returns-then-is_none-clause-took c ds h =
    let none : is_some c.args.self.now.fault ≡ false = grind (arith, common_steps) in
    let e = c.eq.ensures in
    let n = c.if-eq.false in
    let fault : step_entry c.args.terms.format c.args.terms.servers (view c.args.entry.now) ≡ Err c.in-Err.kind = elim c.in-Err.ensures.step [
      | inl m ↦ let y = rw m at e in absurd cc
      | inr f ↦ f
    ] in
    (first_fault c.args.terms c.args.self.now.steps.items c.in-Err.kind c.args.self.now.fault ds (view c.args.entry.now) none fault h.0, h.1)

pub returns-else-is_none-clause-took : goal.returns-else-is_none-clause-took
returns-else-is_none-clause-took c ds h =
    let some : is_some c.args.self.now.fault ≡ true = grind (arith, common_steps) in
    (after_fault c.args.terms c.args.self.now.steps.items c.args.self.now.fault ds (view c.args.entry.now) some h.0, h.1)
