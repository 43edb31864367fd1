-- A least common multiple of two numbers, and the demand of sources over it.
use Rattle.std.proofs.Common.{◌≡◌, ℕ, ◌+◌, ◌*◌, ◌/◌, ◌%◌, ◌≤◌, ◌<◌, List, [], ◌∷◌, ◌++◌, length, take, get_or, arith, refl, ap, ◌∙◌, inl, inr}
use Rattle.std.specs.Prelude.{map}
use Rattle.std.specs.Int.{IsGcd, ◌∣◌}
use Rattle.std.specs.List.{sum_by}
use Rattle.std.proofs.lemmas.Bool.{cases_lt}
use Rattle.std.proofs.lemmas.List.{map_push, take_more, take-map}
use Rattle.std.proofs.lemmas.List.Sums.{sum_by-cons, sum_by_push}
use Rattle.std.proofs.lemmas.Nat.{mul-le}
use native.Mathlib.Nat.{dvd-mul_left, dvd-mul_right, dvd_of_mul-dvd-mul_right, mul-div_cancel', mul-div_assoc, dvd_of_mod-eq-zero}
use Rattle.std.proofs.lemmas.Nat.Gcd.{mod-eq-zero_of_dvd}
use Rattle.cbs_rate.specs.Limits.{greatest_common_multiple}
use Rattle.cbs_rate.specs.Plan.{share, IsCommonMultiple}
use Rattle.cbs_rate.specs.Rate.{Rate}
use Rattle.cbs_rate.proofs.Lists.{AllByRecursion-push, AllByRecursion-from_push}
use Rattle.cbs_rate.proofs.Multiples.{common-dvd, some_from_dvd}
use Rattle.cbs_guarantee.specs.Sources.{ticks_of}
use Rattle.cbs_guarantee.specs.declared.source.Source.{Source}
use Rattle.cbsrun_sizing.specs.Asked.{demand, demands, AreTooFine, IsJoined, IsJoinedTooFine}
use Rattle.cbsrun_sizing.specs.declared.asked.Asked.{Asked}
use Rattle.cbsrun_sizing.proofs.Removed.{all_take}

module _ (a b g : ℕ) (a_some : 0 < a) (b_some : 0 < b) (gcd : IsGcd a b g) where
  pub divisor_some : 0 < g
  divisor_some = some_from_dvd g a gcd.0 a_some

  turned : (x y : ℕ) → g * x ≡ a → g * y ≡ b → x * b ≡ a * y
  turned x y e f = rw (← e, ← f) (omega arith)

  whole : (x : ℕ) → g * x ≡ a → x * b * g ≡ a * b
  whole x e = rw (← e) (omega arith)

  -- each divides their multiple
  pub first_dvd : a ∣ a / g * b
  first_dvd = rw (turned (a / g) (b / g) (mul-div_cancel' g gcd.0) (mul-div_cancel' g gcd.1)) (dvd-mul_right a (b / g))

  pub second_dvd : b ∣ a / g * b
  second_dvd = dvd-mul_left b (a / g)

  pub multiple_some : 0 < a / g * b
  multiple_some = elim (cases_lt 0 (a / g * b)) [
    | inl lt ↦ lt
    | inr le ↦
        let none : a / g * b ≡ 0 = omega arith in
        let e = whole (a / g) (mul-div_cancel' g gcd.0) in
        let f : 0 * g ≡ a * b = rw none at e in
        let m = mul-le 1 1 a b a_some b_some in
        absurd (omega arith)
  ]

  -- it divides each number that both divide
  pub multiple_dvd : ((d k : ℕ) → d ∣ k * a → d ∣ k * b → d ∣ k * g) → (m : ℕ) → a ∣ m → b ∣ m → a / g * b ∣ m
  multiple_dvd scaled m of_a of_b =
      let x = mul-div_cancel' a {m = m} of_a in
      let y = mul-div_cancel' b {m = m} of_b in
      let by_a : a * b ∣ m * a = rw (times (m / b) y) (dvd-mul_right (a * b) (m / b)) in
      let by_b : a * b ∣ m * b = rw (times_other (m / a) x) (dvd-mul_right (a * b) (m / a)) in
      let both = scaled (a * b) m by_a by_b in
      let e = whole (a / g) (mul-div_cancel' g gcd.0) in
      dvd_of_mul-dvd-mul_right {k = g} (a / g * b) {n = m} divisor_some (rw e both)
    where
      times : (y : ℕ) → b * y ≡ m → m * a ≡ a * b * y
      times y e = rw (← e) (omega arith)

      times_other : (x : ℕ) → a * x ≡ m → m * b ≡ a * b * x
      times_other x e = rw (← e) (omega arith)

-- the demand with one source more, over the least common multiple
pub joined_self : (before : Asked) (source : Source) (g : ℕ) → 0 < before.of → 0 < source.every → IsGcd before.of source.every g
    → ((d k : ℕ) → d ∣ k * before.of → d ∣ k * source.every → d ∣ k * g) → before.of / g * source.every ≤ 1_000_000_000_000_000_000
    → IsJoined before source (record {
      ticks = before.ticks * (before.of / g * source.every / before.of) + ticks_of source * (before.of / g * source.every / source.every);
      of = before.of / g * source.every;
    })
joined_self before source g of_some every_some gcd scaled coarse = record {
  some = multiple_some before.of source.every g of_some every_some gcd;
  coarse = coarse;
  of = first_dvd before.of source.every g of_some every_some gcd;
  every = second_dvd before.of source.every g of_some every_some gcd;
  divides = multiple_dvd before.of source.every g of_some every_some gcd scaled;
  ticks = refl;
}

-- over n times as many ticks, the demand is n times as much
scaled_sum : (m n : ℕ) (rates : List Rate) → 0 < m → IsCommonMultiple m rates → sum_by (share (n * m)) rates ≡ n * sum_by (share m) rates
scaled_sum m n [] some common = omega arith
scaled_sum m n (r ∷ rs) some common =
    let d = dvd_of_mod-eq-zero r.period {n = m} common.0 in
    let here : share (n * m) r ≡ n * share m r = rw (mul-div_assoc r.period n d) (omega arith) in
    let rest = scaled_sum m n rs some common.1 in
    rw (sum_by-cons (share (n * m)) r rs, sum_by-cons (share m) r rs, here, rest) (omega arith)

-- the demand of sources, over a common multiple that divides every other one
pub record AreSummed (sources : List Source) (a : Asked) : Type 0 where
  pub some : 0 < a.of
  pub coarse : a.of ≤ greatest_common_multiple
  pub common : IsCommonMultiple a.of (demands sources)
  pub ticks : a.ticks ≡ sum_by (share a.of) (demands sources)
  pub divides : (m : ℕ) → IsCommonMultiple m (demands sources) → a.of ∣ m

-- without a source, the demand is 0
pub summed_none : AreSummed [] (record { ticks = 0; of = 1 })
summed_none = record {
  some = omega arith;
  coarse = omega arith;
  common = tt;
  ticks = refl;
  divides = λ m common. one_dvd m;
}
  where
    one_dvd : (m : ℕ) → 1 ∣ m
    one_dvd m = let e : 1 * m ≡ m = omega arith in let d = dvd-mul_right 1 m in rw e at d

-- the sum over the new multiple
sum_more : (old new n ticks : ℕ) (rates : List Rate) (r : Rate) → 0 < old → IsCommonMultiple old rates → n * old ≡ new → ticks ≡ sum_by (share old) rates
    → ticks * n + r.budget * (new / r.period) ≡ sum_by (share new) (rates ++ r ∷ [])
sum_more old new n ticks rates r some common is sum =
    let e = scaled_sum old n rates some common in
    let f = rw is at e in
    rw (sum_by_push (share new) rates r, f, sum) (omega arith)

-- one source more
pub summed_more : (xs : List Source) (x : Source) (before after : Asked) → AreSummed xs before → IsJoined before x after → AreSummed (xs ++ x ∷ []) after
summed_more xs x before after old joined =
    let is : demands (xs ++ x ∷ []) ≡ demands xs ++ demand x ∷ [] = map_push demand xs x in
    let scale = mul-div_cancel' before.of {m = after.of} joined.of in
    let n : after.of / before.of * before.of ≡ after.of = omega arith in
    let sum = sum_more before.of after.of (after.of / before.of) before.ticks (demands xs) (demand x) old.some old.common n old.ticks in
    let common = AllByRecursion-push (λ (r : Rate). after.of % r.period ≡ 0) (demands xs) (demand x)
    (common-dvd before.of after.of (demands xs) joined.of old.common) (mod-eq-zero_of_dvd x.every joined.every) in
    record {
      some = joined.some;
      coarse = joined.coarse;
      common = rw is common;
      ticks = joined.ticks ∙ rw is sum;
      divides = λ m all. let parts = AllByRecursion-from_push (λ (r : Rate). m % r.period ≡ 0) (demands xs) (demand x) (rw is at all) in
          joined.divides m (old.divides m parts.0) (dvd_of_mod-eq-zero x.every parts.1);
    }

-- the bound on the ticks, with one source more
pub small_more : (i before before_of after after_of n units : ℕ) → before ≤ i * (units * before_of) → n * before_of ≡ after_of
    → after ≤ before * n + units * after_of → after ≤ (i + 1) * (units * after_of)
small_more i before before_of after after_of n units old is h =
    let times = mul-le before n (i * (units * before_of)) n old (omega arith) in
    let e : i * (units * before_of) * n ≡ i * (units * after_of) = rw (← is) (omega arith) in
    omega arith

-- one source more, at its place
pub summed_step : (sources : List Source) (i : ℕ) (d : Source) (before after : Asked) → i < length sources → AreSummed (take i sources) before
    → IsJoined before (get_or sources i d) after → AreSummed (take (i + 1) sources) after
summed_step sources i d before after lt old joined =
    rw (take_more sources i d lt) (summed_more (take i sources) (get_or sources i d) before after old joined)

-- one more source adds at most as many ticks as it may ask for
pub small_step : (i : ℕ) (before after : Asked) (source : Source) → before.ticks ≤ i * (1000000001000000 * before.of) → IsJoined before source after
    → after.ticks ≤ before.ticks * (after.of / before.of) + 1000000001000000 * after.of → after.ticks ≤ (i + 1) * (1000000001000000 * after.of)
small_step i before after source old joined h =
    let d = mul-div_cancel' before.of {m = after.of} joined.of in
    small_more i before.ticks before.of after.ticks after.of (after.of / before.of) 1000000001000000 old (omega arith) h

-- three factors in another order
scaled_bound : (k u o n c : ℕ) → o * n ≡ c → k * (u * o) * n ≡ k * (u * c)
scaled_bound k u o n c e = rw (← e) (omega arith)

-- the ticks of the demand stay within the limit
pub before_small : (ticks of common : ℕ) → of ∣ common → ticks ≤ 65536 * (1000000001000000 * of) → ticks * (common / of) ≤ 65536 * (1000000001000000 * common)
before_small ticks of common d small =
    let e = scaled_bound 65536 1000000001000000 of (common / of) common (mul-div_cancel' of {m = common} d) in
    let times = mul-le ticks (common / of) (65536 * (1000000001000000 * of)) (common / of) small (omega arith) in
    omega arith

-- so many ticks, once in every so many, are at most as many in each
pub more_small : (units every common : ℕ) → every ∣ common → 0 < every → units ≤ 1000000001000000 → units * (common / every) ≤ 1000000001000000 * common
more_small units every common d some few =
    let e = mul-div_cancel' every {m = common} d in
    let once = mul-le 1 (common / every) every (common / every) some (omega arith) in
    let times = mul-le units (common / every) 1000000001000000 common few (omega arith) in
    omega arith

-- if the periods are too fine with one source more, they are too fine with all
pub too_fine : (sources : List Source) (i : ℕ) (d : Source) (before : Asked) → i < length sources → AreSummed (take i sources) before
    → IsJoinedTooFine before (get_or sources i d) → AreTooFine sources
too_fine sources i d before lt old fine = λ m some common.
    let front = all_take (λ (r : Rate). m % r.period ≡ 0) (i + 1) (demands sources) common in
    let mapped : take (i + 1) (demands sources) ≡ demands (take i sources) ++ demand (get_or sources i d) ∷ [] =
    take-map demand (i + 1) sources ∙ (ap (map demand) (take_more sources i d lt) ∙ map_push demand (take i sources) (get_or sources i d)) in
    let parts = AllByRecursion-from_push (λ (r : Rate). m % r.period ≡ 0) (demands (take i sources)) (demand (get_or sources i d)) (rw mapped at front) in
    fine m some (old.divides m parts.0) (dvd_of_mod-eq-zero (get_or sources i d).every parts.1)
