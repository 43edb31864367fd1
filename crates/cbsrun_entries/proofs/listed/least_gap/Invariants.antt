use Rattle.std.proofs.Common.{◌≡◌, ◌≤◌, min, drop}
use Rattle.cbs_rules.specs.Rules.{clock_end}
use Rattle.cbsrun_entries.specs.Sources.{least_gap}
use Rattle.cbsrun_entries.proofs.listed.least_gap.Given as goal

abbrev pub invariant-loop-tick : goal.invariant-loop-tick
invariant-loop-tick l = record {
  so_far : min l.least (least_gap l.before (drop l.tick-index l.others)) ≡ least_gap l.first l.others;
  small : l.least ≤ clock_end;
}
