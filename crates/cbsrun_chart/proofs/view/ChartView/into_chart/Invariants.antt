use Rattle.std.proofs.Common.{◌≡◌, ◌++◌, length}
use Rattle.std.specs.Vec.Iter.{into_iter_items, into_iter_len}
use Rattle.cbsrun_chart.proofs.Rows.{AreRowCharts}
use Rattle.cbsrun_chart.proofs.view.ChartView.into_chart.Given as goal

-- the charts of the first servers
abbrev pub invariant-loop-row : goal.invariant-loop-row
invariant-loop-row l = record {
  count : into_iter_len l.row-iterator ≡ length (into_iter_items l.row-iterator);
  all : l.fn.self.rows ≡ l.yielded ++ into_iter_items l.row-iterator;
  charts : AreRowCharts l.window l.end l.yielded l.servers.items;
}
