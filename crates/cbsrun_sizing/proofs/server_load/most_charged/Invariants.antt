use Rattle.std.proofs.Common.{◌≡◌, ◌≤◌, take}
use Rattle.cbs_rate.specs.Limits.{longest_period}
use Rattle.cbsrun_sizing.specs.ServerLoads.{most_charged}
use Rattle.cbsrun_sizing.proofs.server_load.most_charged.Given as goal

abbrev pub invariant-loop-terms : goal.invariant-loop-terms
invariant-loop-terms l = record {
  value : l.most ≡ most_charged (take l.terms-index l.sources) l.server;
  short : l.most ≤ longest_period;
}
