use Rattle.std.proofs.Common.{refl}
use Rattle.cbs_steps.specs.declared.reply.Reply.TheVariants as reply
use Rattle.cbs_steps.specs.declared.step.Step.TheVariants as step
use Rattle.cbsrun_runs.proofs.MadeSteps.{finishes_none, run_counts, step_made}
use Rattle.cbsrun_runs.proofs.steps.make.Goals as goal

pub returns-in-Run-clause-makes : goal.returns-in-Run-clause-makes
returns-in-Run-clause-makes g c =
    rw c.in-Run.is (step_made g.W.Work.meaning _ _ step.Run (reply.Ran c.run.result) _ refl c.run.ensures.makes (run_counts g.W.Work.meaning _ _ c.run.result c.run.ensures.job) (λ M agrees. refl))

pub returns-in-Ok-clause-makes : goal.returns-in-Ok-clause-makes
returns-in-Ok-clause-makes g c =
    rw c.in-Advance.is (step_made g.W.Work.meaning _ _ (step.Advance c.in-Advance.ticks) reply.Advanced _ refl c.in-Ok.ensures.makes (λ s. (c.advance.ensures.jobs s).finished)
    (λ M agrees. refl))

pub returns-in-Ok-close-clause-makes : goal.returns-in-Ok-close-clause-makes
returns-in-Ok-close-clause-makes g c =
    let s = c.in-Close.server in
    rw c.in-Close.is (step_made g.W.Work.meaning _ _ (step.Close s) reply.Closed _ refl c.in-Ok-close.ensures.makes
    (finishes_none g.W.Work.meaning c.args.core.now c.close.new.self s c.in-Ok-close.ensures.closed.0.finished c.in-Ok-close.ensures.closed.1) (λ M agrees. refl))

pub returns-in-Ok-charge-clause-makes : goal.returns-in-Ok-charge-clause-makes
returns-in-Ok-charge-clause-makes g c =
    rw c.in-Charge.is (step_made g.W.Work.meaning _ _ (step.Charge c.in-Charge.server c.in-Charge.ticks) reply.Charged _ refl c.in-Ok-charge.ensures.makes
    (λ s. (c.charge.ensures.jobs s).finished) (λ M agrees. refl))
