use Rattle.std.proofs.Common.{◌≡◌, ℕ, ◌<◌, ◌≤◌, get_or, length}
use Rattle.std.specs.Prelude.{slice_get}
use Rattle.cbsrun_sweeps.specs.Servers.{joined, no_sweep}
use Rattle.cbsrun_sweeps.specs.Sweeps.{told_by}
use Rattle.cbsrun_sweeps.proofs.sweep.add.Given as goal

-- the first servers have one more run
abbrev pub invariant-loop-server : goal.invariant-loop-server
invariant-loop-server l = record {
  count : length l.sweeps.items ≡ length l.fn.sweeps.items;
  done : (s : ℕ) → s < l.server → get_or l.sweeps.items s no_sweep ≡ joined (get_or l.fn.sweeps.items s no_sweep) (told_by l.seed (slice_get l.servers s));
  left : (s : ℕ) → l.server ≤ s → get_or l.sweeps.items s no_sweep ≡ get_or l.fn.sweeps.items s no_sweep;
}
