use Rattle.std.proofs.Common.{◌≡◌, ◌*◌, ◌^◌, ◌≤◌, take}
use Rattle.cbsrun_report_text.specs.Reports.{figure_of, sum_of}
use Rattle.cbsrun_report_text.proofs.totals.Total.of.Given as goal

abbrev pub invariant-loop-server : goal.invariant-loop-server
invariant-loop-server l = (l.sum ≡ sum_of (figure_of l.self) (take l.server-index l.servers)) × (l.sum ≤ l.server-index * 2 ^ 66)
