use Rattle.std.proofs.Common.{◌≡◌, ℕ, ◌<◌, get_or, length}
use Rattle.cbsrun_sized.proofs.Sources.{no_source}
use Rattle.cbsrun_sized.proofs.same.are_same_sources.Given as goal

abbrev pub invariant-loop-i : goal.invariant-loop-i
invariant-loop-i l = record {
  count : length l.own ≡ length l.others;
  same : (k : ℕ) → k < l.i → get_or l.own k no_source ≡ get_or l.others k no_source;
}
