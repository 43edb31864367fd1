use Rattle.std.proofs.Common.{◌≡◌, take}
use Rattle.cbsrun_sizing.specs.ServerLoads.{least_within}
use Rattle.cbsrun_sizing.proofs.server_load.least_within.Given as goal

abbrev pub invariant-loop-terms : goal.invariant-loop-terms
invariant-loop-terms l = l.least ≡ least_within (take l.terms-index l.sources) l.server
