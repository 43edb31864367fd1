use Rattle.std.proofs.Common.{◌≡◌, ℕ, ◌<◌, length}
use Rattle.std.specs.Prelude.{slice_get}
use Rattle.cbsrun_run_records.proofs.same.are_same_modes.Given as goal

-- the first servers have the same modes
abbrev pub invariant-loop-server : goal.invariant-loop-server
invariant-loop-server l = record {
  count : length l.own ≡ length l.others;
  same : (s : ℕ) → s < l.server → slice_get l.own s ≡ slice_get l.others s;
}
