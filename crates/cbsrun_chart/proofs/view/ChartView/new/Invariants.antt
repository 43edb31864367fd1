use Rattle.std.proofs.Common.{◌≡◌, map, take}
use Rattle.cbsrun_chart.specs.Charts.{new_row}
use Rattle.cbsrun_chart.proofs.view.ChartView.new.Given as goal

-- a row with no step for each of the first servers
abbrev pub invariant-loop-server : goal.invariant-loop-server
invariant-loop-server l = l.rows.items ≡ map new_row (take l.server l.plan.rates)
