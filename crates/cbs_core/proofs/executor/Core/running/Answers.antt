use Rattle.cbs_core.proofs.Running.{told_runner}
use Rattle.cbs_core.proofs.executor.Core.running.Goals as goal

pub returns-clause-running : goal.returns-clause-running
returns-clause-running g c = λ M agrees.
    let inside = rw (← c.self.view_is) at agrees.world in
    rw c.running.ensures (told_runner _ _ inside.runs)
