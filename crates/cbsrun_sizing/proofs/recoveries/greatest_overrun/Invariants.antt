use Rattle.std.proofs.Common.{◌≡◌, take}
use Rattle.cbsrun_sizing.specs.Recoveries.{greatest_overrun}
use Rattle.cbsrun_sizing.proofs.recoveries.greatest_overrun.Given as goal

abbrev pub invariant-loop-terms : goal.invariant-loop-terms
invariant-loop-terms l = l.most ≡ greatest_overrun (take l.terms-index l.sources)
