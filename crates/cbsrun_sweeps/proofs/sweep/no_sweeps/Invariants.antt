use Rattle.cbsrun_sweeps.specs.Sweeps.{AreNone}
use Rattle.cbsrun_sweeps.proofs.sweep.no_sweeps.Given as goal

abbrev pub invariant-loop-server : goal.invariant-loop-server
invariant-loop-server l = AreNone l._server l.sweeps.items
