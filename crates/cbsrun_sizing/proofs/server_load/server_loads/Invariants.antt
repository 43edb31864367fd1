use Rattle.cbsrun_sizing.specs.ServerLoads.{AreServerLoads}
use Rattle.cbsrun_sizing.proofs.server_load.server_loads.Given as goal

abbrev pub invariant-loop-server : goal.invariant-loop-server
invariant-loop-server l = AreServerLoads l.load l.server l.loads.items
