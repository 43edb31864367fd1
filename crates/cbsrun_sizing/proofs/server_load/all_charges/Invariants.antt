use Rattle.std.proofs.Common.{◌≡◌, ◌*◌, ◌≤◌}
use Rattle.cbs_rate.specs.Limits.{longest_period}
use Rattle.cbsrun_sizing.specs.ServerLoads.{all_charges}
use Rattle.cbsrun_sizing.proofs.server_load.all_charges.Given as goal

abbrev pub invariant-loop-server : goal.invariant-loop-server
invariant-loop-server l = record {
  sum : l.charges ≡ all_charges l.sources l.server;
  few : l.charges ≤ l.server * longest_period;
}
