use Rattle.std.proofs.Common.{◌≡◌, ◌≤◌, take}
use Rattle.cbs_rate.specs.Limits.{longest_period}
use Rattle.cbsrun_sizing.specs.ServerLoads.{most_passed}
use Rattle.cbsrun_sizing.proofs.server_load.most_passed.Given as goal

abbrev pub invariant-loop-terms : goal.invariant-loop-terms
invariant-loop-terms l = record {
  value : l.passed ≡ most_passed (take l.terms-index l.sources) l.server;
  short : l.passed ≤ longest_period;
}
