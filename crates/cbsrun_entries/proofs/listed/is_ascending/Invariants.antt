use Rattle.std.proofs.Common.{◌≡◌, drop}
use Rattle.cbsrun_simulate.specs.Drawing.{follow}
use Rattle.cbsrun_entries.proofs.listed.is_ascending.Given as goal

abbrev pub invariant-loop-tick : goal.invariant-loop-tick
invariant-loop-tick l = follow 1 l.before (drop l.tick-index l.others) ≡ follow 1 l.first l.others
