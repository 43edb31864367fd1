use Rattle.std.proofs.Common.{arith}
use Rattle.std.proofs.lemmas.Nat.Gcd.{IsGcd-from_zero, IsGcd-from_mod}
use Rattle.cbsrun_sizing.proofs.Divisors.{scaled_mod}
use Rattle.cbsrun_sizing.proofs.divisor.greatest_common_divisor.Goals as goal

pub loop-rest-init : goal.loop-rest-init
loop-rest-init c = record { greatest = λ g h. h; scaled = λ d k a b. (a, b) }

pub loop-rest-preserved : goal.loop-rest-preserved
loop-rest-preserved c = record {
  greatest = λ g h. c.loop-rest.invariant.greatest g (IsGcd-from_mod _ _ g h);
  scaled = λ d k a b. let both = c.loop-rest.invariant.scaled d k a b in (both.1, scaled_mod d k _ _ both.0 both.1);
}

pub returns : goal.returns
returns c = record {
  greatest = c.loop-rest.invariant.greatest _ (IsGcd-from_zero _ _ (omega arith));
  scaled = λ d k a b. (c.loop-rest.invariant.scaled d k a b).0;
}
