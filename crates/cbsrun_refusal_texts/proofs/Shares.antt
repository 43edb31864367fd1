-- Fractions that are shortened, and how great the numbers of an excess are then.
use Rattle.std.proofs.Common.{◌≡◌, ℕ, zero, suc, ◌+◌, ◌-◌, ◌*◌, ◌/◌, ◌^◌, ◌≤◌, ◌<◌, List, arith, refl}
use Rattle.std.specs.Int.{IsGcd, ◌∣◌}
use Rattle.std.proofs.lemmas.Nat.{mul-le}
use Rattle.std.proofs.lemmas.Nat.Gcd.{le_of_dvd}
use Rattle.std.proofs.Math.Nat.{dvd-mul_left, dvd-mul_right, eq_of_mul-eq-mul_left, mul-div_cancel'}
use Rattle.cbs_rate.specs.Bound.{Fraction, IsBound}
use Rattle.cbs_rate.specs.Rate.{Rate}
use Rattle.cbs_rate.specs.Plan.{all_periods, total_share}
use Rattle.cbs_rate.specs.Room.{IsBandwidth, IsExcess}
use Rattle.cbs_rate.specs.declared.ratio.Ratio.{Ratio}
use Rattle.cbs_rate.proofs.Shares.{cancel}
use Rattle.cbsrun_refusal_texts.specs.Over.{IsShare, IsShortened}

-- a factor of a positive product is positive
factor : (m n : ℕ) → 0 < m * n → 0 < n
factor m zero some = absurd (omega arith)
factor m (suc n) some = omega arith

-- two numbers over their greatest common divisor are the shortened fraction
pub shortened_is : (r : Ratio) (g : ℕ) → 0 < r.whole → IsGcd r.part r.whole g → ((d k : ℕ) → d ∣ k * r.part → d ∣ k * r.whole → d ∣ k * g)
    → IsShortened r (record { part = r.part / g; whole = r.whole / g })
shortened_is r g some gcd scaled = record {
  divisor = g;
  part = mul-div_cancel' g gcd.0;
  whole = whole;
  least = least;
}
  where
    whole : g * (r.whole / g) ≡ r.whole
    whole = mul-div_cancel' g gcd.1

    positive : 0 < (r.whole / g) * g
    positive = let e = whole in omega arith

    least : (n : ℕ) → 0 < n → r.whole ∣ n * r.part → r.whole / g ≤ n
    least n n_some divides =
        let g_some = factor (r.whole / g) g positive in
        let le = le_of_dvd (mul-le 1 1 n g n_some g_some) (scaled r.whole n divides (dvd-mul_left r.whole n)) in
        let e = whole in
        cancel g (r.whole / g) n g_some (omega arith)

module _ (bound : Fraction) (rates : List Rate) (excess shortest : Ratio) (over : IsExcess bound rates excess.part excess.whole)
    (short : IsShortened excess shortest) where
  g_some : 0 < short.divisor
  g_some =
      let w = factor bound.den excess.whole over.exact.some in
      let e = short.whole in
      factor shortest.whole short.divisor (omega arith)

  -- it is as much too much
  pub excess_shortened : IsExcess bound rates shortest.part shortest.whole
  excess_shortened = record {
    more = let more = over.more in let e = short.part in factor short.divisor shortest.part (omega arith);
    exact = record {
      some = factor short.divisor (bound.den * shortest.whole) (regrouped bound.den excess.whole short.divisor shortest.whole short.whole over.exact.some);
      exact = eq_of_mul-eq-mul_left short.divisor g_some _ _ (turned bound.num bound.den excess.part excess.whole short.divisor shortest.part shortest.whole
          (all_periods rates) (total_share rates) short.part short.whole over.exact.exact);
    };
  }
    where
      turned : (num den p w g p' w' a s : ℕ) → g * p' ≡ p → g * w' ≡ w → (num * w + p * den) * a ≡ s * (den * w)
          → g * ((num * w' + p' * den) * a) ≡ g * (s * (den * w'))
      turned num den p w g p' w' a s e f h = let k = rw (← e, ← f) at h in omega arith

      regrouped : (den w g w' : ℕ) → g * w' ≡ w → 0 < den * w → 0 < g * (den * w')
      regrouped den w g w' e h = let k = rw (← e) at h in omega arith

  module _ (total : Ratio) (bounded : IsBound bound.num bound.den) (periods : 0 < all_periods rates)
      (all : IsBandwidth rates total.part total.whole) where
    -- what is too much, over the whole of all: `num * w * tw + p * den * tw ≡ tp * den * w`
    same : bound.num * excess.whole * total.whole + excess.part * bound.den * total.whole ≡ total.part * bound.den * excess.whole
    same = crossed bound.num bound.den excess.part excess.whole total.part total.whole (all_periods rates) (total_share rates) periods over.exact.exact all.exact
      where
        crossed : (num den p w tp tw a s : ℕ) → 0 < a → (num * w + p * den) * a ≡ s * (den * w) → tp * a ≡ s * tw
            → num * w * tw + p * den * tw ≡ tp * den * w
        crossed num den p w tp tw a s some e f =
            let e' : tw * ((num * w + p * den) * a) ≡ tw * (s * (den * w)) = rw e refl in
            let f' : den * w * (tp * a) ≡ den * w * (s * tw) = rw f refl in
            eq_of_mul-eq-mul_left a some _ _ (omega arith)

    whole_some : 0 < excess.whole
    whole_some = factor bound.den excess.whole over.exact.some

    den_some : 0 < bound.den
    den_some = let some = over.exact.some in factor excess.whole bound.den (omega arith)

    -- its whole divides that of all, times the denominator of the bound, times its part
    divides : excess.whole ∣ bound.den * total.whole * excess.part
    divides =
        let e = same in
        let le : bound.num * total.whole ≤ total.part * bound.den = cancel excess.whole _ _ whole_some (omega arith) in
        by bound.num bound.den excess.part excess.whole total.part total.whole (total.part * bound.den - bound.num * total.whole) (omega arith) same
      where
        by : (num den p w tp tw k : ℕ) → num * tw + k ≡ tp * den → num * w * tw + p * den * tw ≡ tp * den * w → w ∣ den * tw * p
        by num den p w tp tw k e f =
            let g : w * (num * tw + k) ≡ w * (tp * den) = rw e refl in
            let h : w * k ≡ den * tw * p = omega arith in
            rw h at (dvd-mul_right w k)

    -- it is at most two
    at_most : total.part ≤ 2 * total.whole → excess.part ≤ 2 * excess.whole
    at_most le =
        let m = mul-le total.part (bound.den * excess.whole) (2 * total.whole) (bound.den * excess.whole) le (omega arith) in
        let e = same in
        cancel (bound.den * total.whole) excess.part (2 * excess.whole) (mul-le 1 1 bound.den total.whole den_some all.some) (omega arith)

    -- so its numbers are small, once it is shortened
    pub is_share : total.whole ≤ 10 ^ 27 → total.part ≤ 2 * total.whole → IsShare shortest
    is_share coarse le =
        let n = mul-le bound.den total.whole (10 ^ 6) (10 ^ 27) bounded.small coarse in
        let whole = short.least (bound.den * total.whole) (mul-le 1 1 bound.den total.whole den_some all.some) divides in
        let twice = at_most le in
        let p = short.part in
        let w = short.whole in
        let part : shortest.part ≤ 2 * shortest.whole = cancel short.divisor _ _ g_some (omega arith) in
        record {
          some = let e = whole_some in factor short.divisor shortest.whole (omega arith);
          small = omega arith;
        }
