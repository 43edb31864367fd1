use Rattle.std.proofs.Common.{◌≡◌}
use Rattle.cbsrun_sizing.proofs.Removed.{front_without}
use Rattle.cbsrun_sizing.proofs.budgets.without.Given as goal

abbrev pub invariant-loop-other : goal.invariant-loop-other
invariant-loop-other l = l.others ≡ front_without l.plan l.other l.server
