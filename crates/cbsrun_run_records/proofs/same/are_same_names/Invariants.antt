use Rattle.std.proofs.Common.{◌≡◌, ℕ, ◌<◌, [], get_or, length, map, string_bytes}
use Rattle.cbsrun_run_records.proofs.same.are_same_names.Given as goal

-- the first servers have the same names
abbrev pub invariant-loop-i : goal.invariant-loop-i
invariant-loop-i l = record {
  count : length l.own ≡ length l.others;
  same : (k : ℕ) → k < l.i → get_or (map string_bytes l.own) k [] ≡ get_or (map string_bytes l.others) k [];
}
