use Rattle.std.proofs.Common.{◌≡◌, take}
use Rattle.std.specs.Prelude.{sum_by}
use Rattle.cbsrun_window.specs.Counts.{told}
use Rattle.cbsrun_svg.specs.Rows.{charged_of}
use Rattle.cbsrun_svg.proofs.head.all_charged.Given as goal

abbrev pub invariant-loop-server : goal.invariant-loop-server
invariant-loop-server l = l.charged ≡ told (sum_by (λ d. charged_of l.window d.chart) (take l.server-index l.servers))
