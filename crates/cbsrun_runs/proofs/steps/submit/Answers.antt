use Rattle.std.proofs.Common.{◌≡◌, false, refl, ap}
use Rattle.cbs_core.specs.Held.{held_at}
use Rattle.cbs_steps.specs.Errors.{is_out_of_memory}
use Rattle.cbs_steps.specs.declared.error.CoreError.{CoreError}
use Rattle.cbs_steps.specs.declared.error.CoreError.TheVariants as error
use Rattle.cbs_steps.specs.History.{◌⊕◌}
use Rattle.cbs_steps.specs.declared.reply.Reply.TheVariants as reply
use Rattle.cbs_steps.specs.declared.step.Step.TheVariants as step
use Rattle.cbsrun_runs.proofs.MadeSteps.{finishes_none, step_made}
use Rattle.cbsrun_runs.proofs.steps.submit.Goals as goal

pub returns-in-Ok-clause-makes : goal.returns-in-Ok-clause-makes
returns-in-Ok-clause-makes g c =
    let x = step.Submit c.args.server c.args.task in
    step_made g.W.Work.meaning _ _ x (reply.Accepted c.in-Ok.number) _ refl c.in-Ok.ensures.tries
    (finishes_none g.W.Work.meaning c.args.core.now c.submit-answer.new.self c.args.server c.in-Ok.ensures.job.0.finished c.in-Ok.ensures.job.1)
    (λ M agrees. rw (c.now.ensures.now (M ⊕ x) agrees, c.left-units.ensures.value, c.promised.ensures.value (M ⊕ x) agrees) refl)

-- another error does not say that memory was refused
not_lack : (e : CoreError) → (e ≡ error.OutOfMemory → ⊥) → is_out_of_memory e ≡ false
not_lack error.BadBacklog other = refl
not_lack error.OutOfMemory other = absurd (other refl)
not_lack error.NoSuchServer other = refl
not_lack error.Closed other = refl
not_lack error.BacklogFull other = refl
not_lack error.ClockEnd other = refl
not_lack error.NotRunning other = refl

pub returns : goal.returns
returns g c =
    let x = step.Submit c.args.server c.args.task in
    let r = reply.NotAccepted c.in-Err.refused in
    let sure = not_lack c.in-Err.refused.error c.in_default.not-OutOfMemory in
    record {
      makes = step_made g.W.Work.meaning _ _ x r _ sure (rw sure at c.in-Err.ensures.tries) (λ s. ap (λ core. (held_at core s).face.finished) c.in-Err.ensures.unchanged)
          (λ M agrees. rw (c.now.ensures.now (M ⊕ x) agrees, c.left-units.ensures.value) refl);
      unchanged = tt;
    }
