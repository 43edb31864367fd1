use Rattle.std.proofs.Common.{◌≡◌, false, is_some}
use Rattle.std.proofs.lemmas.List.Elements.{All-push}
use Rattle.cbsrun_task_steps.specs.Entries.{IsFileStep}
use Rattle.cbsrun_task_steps.proofs.MoreSteps.{after_fault, one_more}
use Rattle.cbsrun_task_steps.proofs.steps.StepsRead.keep.Goals as goal

pub returns-then-is_some-clause-kept : goal.returns-then-is_some-clause-kept
returns-then-is_some-clause-kept c t d given named ds h =
    (after_fault t c.args.self.now.steps.items c.args.self.now.fault ds d (rw (← c.is_some.ensures) c.if-is_some.true) h.0, h.1)

pub returns-clause-kept : goal.returns-clause-kept
returns-clause-kept c t d given named ds h =
    let none : is_some c.args.self.now.fault ≡ false = rw (← c.is_some.ensures) c.if-is_some.false in
    rw c.in-Ok.ensures.items (
      one_more t c.args.self.now.steps.items c.args.step c.args.self.now.fault ds d none given h.0,
      All-push (IsFileStep t.servers) c.args.self.now.steps.items c.args.step h.1 named,
    )
