use Rattle.cbsrun_runs.proofs.SeenSteps.{on_err_always}
use Rattle.cbsrun_runs.proofs.simulated.SeededLoadRun.show.Goals as goal

pub returns-in_err-show_load-clause-stopped : goal.returns-in_err-show_load-clause-stopped
returns-in_err-show_load-clause-stopped g c = on_err_always c.from_residual.result c.in_err-show_load.ensures.stopped
