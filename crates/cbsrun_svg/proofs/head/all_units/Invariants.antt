use Rattle.std.proofs.Common.{◌≡◌, take}
use Rattle.std.specs.Prelude.{sum_by}
use Rattle.cbsrun_window.specs.Counts.{told}
use Rattle.cbsrun_svg.specs.Rows.{units_of}
use Rattle.cbsrun_svg.proofs.head.all_units.Given as goal

abbrev pub invariant-loop-server : goal.invariant-loop-server
invariant-loop-server l = l.units ≡ told (sum_by (λ d. units_of l.window d.chart) (take l.server-index l.servers))
