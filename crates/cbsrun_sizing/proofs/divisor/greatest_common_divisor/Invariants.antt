use Rattle.std.proofs.Common.{ℕ, ◌*◌}
use Rattle.std.specs.Int.{IsGcd, ◌∣◌}
use Rattle.cbsrun_sizing.proofs.divisor.greatest_common_divisor.Given as goal

abbrev pub invariant-loop-rest : goal.invariant-loop-rest
invariant-loop-rest l = record {
  greatest : (g : ℕ) → IsGcd l.divisor l.rest g → IsGcd l.fn.a l.fn.b g;
  scaled : (d k : ℕ) → d ∣ k * l.fn.a → d ∣ k * l.fn.b → (d ∣ k * l.divisor) × (d ∣ k * l.rest);
}

abbrev pub decreases-loop-rest : goal.decreases-loop-rest
decreases-loop-rest l = l.rest
