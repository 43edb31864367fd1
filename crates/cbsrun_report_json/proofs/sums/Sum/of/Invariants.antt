use Rattle.std.proofs.Common.{◌≡◌, take}
use Rattle.cbsrun_report_text.specs.Reports.{sum_of}
use Rattle.cbsrun_json.specs.Members.{told}
use Rattle.cbsrun_report_json.specs.Json.{figure_of}
use Rattle.cbsrun_report_json.proofs.sums.Sum.of.Given as goal

abbrev pub invariant-loop-server : goal.invariant-loop-server
invariant-loop-server l = l.sum ≡ told (sum_of (figure_of l.self) (take l.server-index l.servers))
