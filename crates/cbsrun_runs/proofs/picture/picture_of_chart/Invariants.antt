use Rattle.std.proofs.Common.{◌≡◌, ◌++◌, length, map, take}
use Rattle.std.specs.Prelude.{string_bytes}
use Rattle.std.specs.Vec.Iter.{into_iter_items, into_iter_len}
use Rattle.cbsrun_runs.proofs.picture.picture_of_chart.Given as goal

-- the first servers
abbrev pub invariant-loop-chart : goal.invariant-loop-chart
invariant-loop-chart g l = record {
  count : into_iter_len l.chart-iterator ≡ length (into_iter_items l.chart-iterator);
  all : l.fn.chart.servers.items ≡ l.yielded ++ into_iter_items l.chart-iterator;
  charts : map (λ d. d.chart) l.servers.items ≡ l.yielded;
  names : map (λ d. string_bytes d.name) l.servers.items ≡ take (length l.servers.items) (g.R.Run.run l.run).names;
  modes : map (λ d. d.mode) l.servers.items ≡ take (length l.servers.items) (g.R.Run.run l.run).modes;
  reservations : map (λ d. d.reservation) l.servers.items ≡ take (length l.servers.items) (g.R.Run.run l.run).plan.rates;
}
