use Rattle.cbsrun_sweeps.specs.Sweeps.{AreSwept}
use Rattle.cbsrun_sweeps.proofs.sweep.swept_in_turn.Given as goal

-- the runs so far
abbrev pub invariant-loop-run : goal.invariant-loop-run
invariant-loop-run l = AreSwept l.name l.load l.first l.run l.servers.items
