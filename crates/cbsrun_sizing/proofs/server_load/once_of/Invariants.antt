use Rattle.std.proofs.Common.{◌≡◌, take}
use Rattle.cbsrun_sizing.specs.ServerLoads.{once_of}
use Rattle.cbsrun_sizing.proofs.server_load.once_of.Given as goal

abbrev pub invariant-loop-terms : goal.invariant-loop-terms
invariant-loop-terms l = l.ticks ≡ once_of l.server (take l.terms-index l.sources)
