use Rattle.std.proofs.Common.{◌≡◌, [], ap}
use Rattle.cbs_core.proofs.Laws.{punctual_after, steps_close}
use Rattle.cbs_core.specs.Agreement.{Agrees}
use Rattle.cbs_job.specs.FileJobs.{of_files}
use Rattle.cbsrun_runs.specs.Tasks.{start_of_tasks}
use Rattle.cbsrun_runs.proofs.Runs.{saw_none}
use Rattle.cbsrun_runs.proofs.SeenSteps.{on_err_always, saw_some_of}
use Rattle.cbsrun_runs.proofs.StepTurns.{steps_in_turn}
use Rattle.cbsrun_runs.proofs.replay.ReplayRun.show.Goals as goal

pub returns-clause-in_order : goal.returns-clause-in_order
returns-clause-in_order g c = λ s lt. steps_in_turn of_files s (start_of_tasks c.args.self.now) c.args.self.now.steps [] tt

pub returns-clause-lawful : goal.returns-clause-lawful
returns-clause-lawful g c =
    let f = c.args.self.now in
    let agrees : Agrees of_files c.in-Ok.core (start_of_tasks f) =
    rw (← c.self.view_is, ← c.plan.ensures.value, ← c.modes.ensures.value) c.in-Ok.ensures.start in
    let steps : c.replace-steps.result.items ≡ f.steps = rw (← c.self.view_is) (ap (λ v. v.items) c.replace-steps.ensures.value) in
    record {
      completions = λ s. rw steps at (c.in_ok-show_steps.ensures.shown.completes (start_of_tasks f) agrees s);
      closes = λ s. steps_close of_files (start_of_tasks f) f.steps s;
      punctual = punctual_after of_files (start_of_tasks f)
          (rw (← c.self.view_is, ← c.plan.ensures.value, ← c.modes.ensures.value) c.in-Ok.ensures.punctual) f.steps;
    }

pub returns-in_default-clause-stopped : goal.returns-in_default-clause-stopped
returns-in_default-clause-stopped g c = λ first was. saw_none g.V.View.saw g.V.View.failed first _ _ was

pub returns-in_err-show_steps-clause-stopped : goal.returns-in_err-show_steps-clause-stopped
returns-in_err-show_steps-clause-stopped g c = on_err_always c.from_residual.result (λ first was.
    let f = c.args.self.now in
    let agrees : Agrees of_files c.in-Ok.core (start_of_tasks f) =
    rw (← c.self.view_is, ← c.plan.ensures.value, ← c.modes.ensures.value) c.in-Ok.ensures.start in
    let steps : c.replace-steps.result.items ≡ f.steps = rw (← c.self.view_is) (ap (λ v. v.items) c.replace-steps.ensures.value) in
    rw steps at (saw_some_of of_files g.V.View.saw g.V.View.failed (start_of_tasks f) c.replace-steps.result.items _ first _ _
    (c.in_err-show_steps.ensures.stopped (start_of_tasks f) agrees) was))
