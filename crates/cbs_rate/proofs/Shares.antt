-- What all servers may run in a common multiple of their periods, and in a multiple of it.
use Rattle.std.proofs.Common.{◌≡◌, ℕ, ◌+◌, ◌*◌, ◌/◌, ◌%◌, ◌≤◌, ◌<◌, List, [], ◌∷◌, ◌++◌, arith, refl, inl, inr}
use Rattle.std.specs.Prelude.{◌↔◌}
use Rattle.std.specs.List.{sum_by}
use Rattle.std.proofs.lemmas.Bool.{cases_lt}
use Rattle.std.proofs.lemmas.Nat.{mul-le}
use Rattle.std.proofs.lemmas.Nat.Gcd.{dvd_of_mod-eq-zero}
use Rattle.std.proofs.lemmas.List.Sums.{sum_by-cons, sum_by_push}
use Rattle.std.proofs.Math.Nat.{mul-div_cancel_left, mul-div_cancel'}
use Rattle.cbs_rate.specs.Rate.{Rate, IsRate}
use Rattle.cbs_rate.specs.Plan.{share, all_periods, total_share, IsCommonMultiple, common_multiple}
use Rattle.cbs_rate.proofs.Multiples.{AllLawful, period_some, all_periods_some, all_periods-common, common_multiple-least, least-dvd}
use Rattle.cbs_rate.proofs.Lists.{AllByRecursion-push, AllByRecursion-from_push}

-- what divides m goes into a multiple of m as often as that many times into m
quotient_scaled : (m n t : ℕ) → 0 < t → t * (m / t) ≡ m → n * m / t ≡ n * (m / t)
quotient_scaled m n t some e =
    let q = mul-div_cancel_left (n * (m / t)) some in
    let f : n * (t * (m / t)) ≡ n * m = rw e refl in
    let g : t * (n * (m / t)) ≡ n * m = omega arith in
    rw g at q

-- of n times as many parts the share is n times as great
share_scaled : (m n : ℕ) (r : Rate) → IsRate r.budget r.period → m % r.period ≡ 0 → share (n * m) r ≡ n * share m r
share_scaled m n r ok e =
    let d = mul-div_cancel' r.period {m = m} (dvd_of_mod-eq-zero r.period e) in
    rw (quotient_scaled m n r.period (period_some r ok) d) (omega arith)

-- in n times as many ticks all servers may run n times as long
pub sum_scaled : (m n : ℕ) (rates : List Rate) → AllLawful rates → IsCommonMultiple m rates → sum_by (share (n * m)) rates ≡ n * sum_by (share m) rates
sum_scaled m n [] all common = omega arith
sum_scaled m n (r ∷ rs) all common =
    let here = share_scaled m n r all.0 common.0 in
    let rest = sum_scaled m n rs all.1 common.1 in
    rw (sum_by-cons (share (n * m)) r rs, sum_by-cons (share m) r rs, here, rest) (omega arith)

-- a common factor may be left out
pub cancel : (m a b : ℕ) → 0 < m → m * a ≤ m * b → a ≤ b
cancel m a b some h = elim (cases_lt b a) [
  | inl lt ↦ let k = mul-le m (b + 1) m a (omega arith) (omega arith) in absurd (omega arith)
  | inr le ↦ le
]

-- the least common multiple, and how often it goes into the product of all periods
pub product_is : (rates : List Rate) → AllLawful rates → all_periods rates / common_multiple rates * common_multiple rates ≡ all_periods rates
product_is rates all =
    let e = mul-div_cancel' (common_multiple rates) {m = all_periods rates}
    (least-dvd (common_multiple rates) (all_periods rates) rates (common_multiple-least rates all) (all_periods-common rates)) in
    omega arith

-- the product of all periods is a multiple of the least common one, not 0
pub product_some : (rates : List Rate) → AllLawful rates → 0 < all_periods rates / common_multiple rates
product_some rates all = elim (cases_lt 0 (all_periods rates / common_multiple rates)) [
  | inl lt ↦ lt
  | inr le ↦
      let zero_is : all_periods rates / common_multiple rates ≡ 0 = omega arith in
      let e = product_is rates all in
      let f : 0 * common_multiple rates ≡ all_periods rates = rw zero_is at e in
      let s = all_periods_some rates all in
      absurd (omega arith)
]

-- the rates fit over the product of all periods exactly if they do over the least common multiple
pub fits_common : (num den : ℕ) (rates : List Rate) → AllLawful rates
    → (den * total_share rates ≤ num * all_periods rates) ↔ (den * sum_by (share (common_multiple rates)) rates ≤ num * common_multiple rates)
fits_common num den rates all =
    let n = all_periods rates / common_multiple rates in
    let m = common_multiple rates in
    let some = product_some rates all in
    let e = sum_scaled m n rates all (common_multiple-least rates all).common in
    let scaled = both n m (sum_by (share m) rates) some in
    rw (← e, product_is rates all) at scaled
  where
    both : (n m s : ℕ) → 0 < n → (den * (n * s) ≤ num * (n * m)) ↔ (den * s ≤ num * m)
    both n m s some = (
      λ h. cancel n (den * s) (num * m) some (omega arith),
      λ h. let k = mul-le n (den * s) n (num * m) (omega arith) h in omega arith,
    )

-- the rates fit a bound of at most one, so all servers together may run at most the whole time
pub at_most_one : (num den s p : ℕ) → num ≤ den → 0 < den → den * s ≤ num * p → s ≤ p
at_most_one num den s p le some h = elim (cases_lt p s) [
  | inl lt ↦
      let a = mul-le den (p + 1) den s (omega arith) (omega arith) in
      let b = mul-le num p den p le (omega arith) in
      absurd (omega arith)
  | inr ge ↦ ge
]

-- one rate more, over the least common multiple of all periods
module _ (rates : List Rate) (r : Rate) (all : AllLawful rates) (ok : IsRate r.budget r.period) where
  lawful_next : AllLawful (rates ++ r ∷ [])
  lawful_next = AllByRecursion-push (λ x. IsRate x.budget x.period) rates r all ok

  common_next : IsCommonMultiple (common_multiple (rates ++ r ∷ [])) rates × (common_multiple (rates ++ r ∷ []) % r.period ≡ 0)
  common_next =
      AllByRecursion-from_push (λ x. common_multiple (rates ++ r ∷ []) % x.period ≡ 0) rates r (common_multiple-least (rates ++ r ∷ []) lawful_next).common

  -- the old common multiple divides the new one
  old_divides : common_multiple rates * (common_multiple (rates ++ r ∷ []) / common_multiple rates) ≡ common_multiple (rates ++ r ∷ [])
  old_divides =
      mul-div_cancel' (common_multiple rates) {m = common_multiple (rates ++ r ∷ [])}
      (least-dvd (common_multiple rates) (common_multiple (rates ++ r ∷ [])) rates (common_multiple-least rates all) common_next.0)

  period_divides : r.period * (common_multiple (rates ++ r ∷ []) / r.period) ≡ common_multiple (rates ++ r ∷ [])
  period_divides = mul-div_cancel' r.period {m = common_multiple (rates ++ r ∷ [])} (dvd_of_mod-eq-zero r.period common_next.1)

  pub sum_next : sum_by (share (common_multiple rates)) rates * (common_multiple (rates ++ r ∷ []) / common_multiple rates)
      + share (common_multiple (rates ++ r ∷ [])) r
      ≡ sum_by (share (common_multiple (rates ++ r ∷ []))) (rates ++ r ∷ [])
  sum_next =
      let n = common_multiple (rates ++ r ∷ []) / common_multiple rates in
      let e = sum_scaled (common_multiple rates) n rates all (common_multiple-least rates all).common in
      let f : n * common_multiple rates ≡ common_multiple (rates ++ r ∷ []) = let d = old_divides in omega arith in
      let g = rw f at e in
      rw (sum_by_push (share (common_multiple (rates ++ r ∷ []))) rates r, g) (omega arith)

  pub old_share-le : total_share rates ≤ all_periods rates → sum_by (share (common_multiple rates)) rates *
      (common_multiple (rates ++ r ∷ []) / common_multiple rates) ≤ common_multiple (rates ++ r ∷ [])
  old_share-le full =
      let n = common_multiple (rates ++ r ∷ []) / common_multiple rates in
      let fits = (fits_common 1 1 rates all).0 (omega arith) in
      let m = mul-le (sum_by (share (common_multiple rates)) rates) n (common_multiple rates) n (omega arith) (omega arith) in
      let d = old_divides in
      omega arith

  pub new_share-le : share (common_multiple (rates ++ r ∷ [])) r ≤ common_multiple (rates ++ r ∷ [])
  new_share-le =
      let n = common_multiple (rates ++ r ∷ []) / r.period in
      let m = mul-le r.budget n r.period n ok.within (omega arith) in
      let d = period_divides in
      omega arith
