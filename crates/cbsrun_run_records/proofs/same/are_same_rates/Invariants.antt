use Rattle.std.proofs.Common.{◌≡◌, ℕ, ◌<◌, length}
use Rattle.std.specs.Prelude.{slice_get}
use Rattle.cbsrun_run_records.proofs.same.are_same_rates.Given as goal

-- the first servers have the same reservations
abbrev pub invariant-loop-server : goal.invariant-loop-server
invariant-loop-server l = record {
  count : length l.own.rates ≡ length l.others.rates;
  same : (s : ℕ) → s < l.server → slice_get l.own.rates s ≡ slice_get l.others.rates s;
}
