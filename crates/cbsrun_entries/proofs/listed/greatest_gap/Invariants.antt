use Rattle.std.proofs.Common.{◌≡◌, ◌≤◌, max, drop}
use Rattle.cbs_rules.specs.Rules.{clock_end}
use Rattle.cbsrun_entries.specs.Sources.{greatest_gap}
use Rattle.cbsrun_entries.proofs.listed.greatest_gap.Given as goal

abbrev pub invariant-loop-tick : goal.invariant-loop-tick
invariant-loop-tick l = record {
  so_far : max l.greatest (greatest_gap l.before (drop l.tick-index l.others)) ≡ greatest_gap l.first l.others;
  small : l.greatest ≤ clock_end;
}
