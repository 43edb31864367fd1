use Rattle.cbsrun_runs.proofs.SeenSteps.{on_err_always}
use Rattle.cbsrun_runs.proofs.simulated.LoadRun.show.Goals as goal

pub returns-clause-lawful : goal.returns-clause-lawful
returns-clause-lawful g c = rw c.seed.ensures at c.in_ok-show_load.ensures.lawful

pub returns-in_err-show_load-clause-stopped : goal.returns-in_err-show_load-clause-stopped
returns-in_err-show_load-clause-stopped g c = on_err_always c.from_residual.result (rw c.seed.ensures at c.in_err-show_load.ensures.stopped)
