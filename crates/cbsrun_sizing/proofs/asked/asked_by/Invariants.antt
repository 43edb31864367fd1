use Rattle.std.proofs.Common.{◌*◌, ◌≤◌, take}
use Rattle.cbsrun_sizing.specs.Asked.{most_ticks}
use Rattle.cbsrun_sizing.proofs.Joins.{AreSummed}
use Rattle.cbsrun_sizing.proofs.asked.asked_by.Given as goal

abbrev pub invariant-loop-source : goal.invariant-loop-source
invariant-loop-source l = record {
  summed : AreSummed (take l.source-index l.sources) l.asked;
  small : l.asked.ticks ≤ l.source-index * (most_ticks * l.asked.of);
}
