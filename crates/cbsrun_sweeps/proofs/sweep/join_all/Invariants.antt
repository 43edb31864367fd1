use Rattle.std.proofs.Common.{◌≡◌, ℕ, ◌<◌, ◌≤◌, get_or, length}
use Rattle.cbsrun_sweeps.specs.Servers.{joined, no_sweep}
use Rattle.cbsrun_sweeps.proofs.sweep.join_all.Given as goal

-- the first servers have the later runs, too
abbrev pub invariant-loop-server : goal.invariant-loop-server
invariant-loop-server l = record {
  count : length l.sweeps.items ≡ length l.fn.sweeps.items;
  done : (s : ℕ) → s < l.server → get_or l.sweeps.items s no_sweep ≡ joined (get_or l.fn.sweeps.items s no_sweep) (get_or l.later s no_sweep);
  left : (s : ℕ) → l.server ≤ s → get_or l.sweeps.items s no_sweep ≡ get_or l.fn.sweeps.items s no_sweep;
}
