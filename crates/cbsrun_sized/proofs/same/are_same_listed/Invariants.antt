use Rattle.std.proofs.Common.{◌≡◌, ℕ, ◌<◌, [], get_or, length, map, Vec}
use Rattle.std.specs.declared.alloc.Global.{Global}
use Rattle.cbsrun_sized.proofs.same.are_same_listed.Given as goal

abbrev pub invariant-loop-i : goal.invariant-loop-i
invariant-loop-i l = record {
  count : length l.own ≡ length l.others;
  same : (k : ℕ) → k < l.i → get_or (map (λ (v : Vec ℕ Global). v.items) l.own) k [] ≡ get_or (map (λ (v : Vec ℕ Global). v.items) l.others) k [];
}
