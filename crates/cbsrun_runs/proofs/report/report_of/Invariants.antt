use Rattle.std.proofs.Common.{◌≡◌, length}
use Rattle.cbsrun_runs.specs.Runs.{IsServerReport}
use Rattle.cbsrun_runs.proofs.Servers.{EachFrom}
use Rattle.cbsrun_runs.proofs.report.report_of.Given as goal

-- the reports of the first servers
abbrev pub invariant-loop-server : goal.invariant-loop-server
invariant-loop-server g l = record {
  count : length l.servers.items ≡ l.server;
  each : EachFrom (IsServerReport (g.R.Run.run l.fn.run)) 0 l.servers.items;
}
