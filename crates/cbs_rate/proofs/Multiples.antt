-- The least common multiple of the periods of a plan, and of one period more.
use Rattle.std.proofs.Common.{◌≡◌, ℕ, zero, suc, ◌+◌, ◌*◌, ◌/◌, ◌%◌, ◌≤◌, ◌<◌, Bool, true, false, eqb, List, [], ◌∷◌, ◌++◌, arith, refl, inl, inr}
use Rattle.std.specs.List.{list_all, AllByRecursion}
use Rattle.std.specs.Int.{IsGcd, ◌∣◌}
use Rattle.std.proofs.lemmas.Bool.{cases_lt}
use Rattle.std.proofs.lemmas.Bool.Decides.{eqb_tells}
use Rattle.std.proofs.lemmas.Nat.{mul-le}
use Rattle.std.proofs.lemmas.Nat.Gcd.{dvd_of_mod-eq-zero, mod-eq-zero_of_dvd, dvd_trans, dvd_antisymm}
use Rattle.std.proofs.Math.Nat.{dvd-mod_iff, mul-mod_right, dvd-mul_left, dvd-mul_right, mul-div_cancel', eq_of_mul-eq-mul_left}
use Rattle.cbs_rate.specs.Rate.{Rate, IsRate}
use Rattle.cbs_rate.specs.Plan.{all_periods, IsCommonMultiple, IsLeastCommonMultiple, common_multiple, common_multiple_from}
use Rattle.cbs_rate.proofs.Lists.{AllByRecursion-push, AllByRecursion-from_push}

abbrev pub AllLawful : List Rate → Type 0
AllLawful rates = AllByRecursion (λ r. IsRate r.budget r.period) rates

-- a period is not 0
pub period_some : (r : Rate) → IsRate r.budget r.period → 0 < r.period
period_some r ok = let a = ok.some in let b = ok.within in omega arith

-- the product of all periods is positive
pub all_periods_some : (rates : List Rate) → AllLawful rates → 0 < all_periods rates
all_periods_some [] all = omega arith
all_periods_some (r ∷ rs) all =
    let m = mul-le 1 1 r.period (all_periods rs) (period_some r all.0) (all_periods_some rs all.1) in
    omega arith

-- every period divides each multiple of the product of all periods
common_of_product : (m : ℕ) (rates : List Rate) → IsCommonMultiple (m * all_periods rates) rates
common_of_product m [] = tt
common_of_product m (r ∷ rs) =
    let e : m * (r.period * all_periods rs) ≡ r.period * (m * all_periods rs) = omega arith in
    let f : m * r.period * all_periods rs ≡ m * (r.period * all_periods rs) = omega arith in
    let rest = common_of_product (m * r.period) rs in
    (rw e (mul-mod_right r.period (m * all_periods rs)), rw f at rest)

-- the product of all periods is a common multiple
pub all_periods-common : (rates : List Rate) → IsCommonMultiple (all_periods rates) rates
all_periods-common rates =
    let e : 1 * all_periods rates ≡ all_periods rates = omega arith in
    let c = common_of_product 1 rates in
    rw e at c

-- the test of the search
common_from_test : (m : ℕ) (rates : List Rate) → list_all (λ r. eqb (m % r.period) 0) rates ≡ true → IsCommonMultiple m rates
common_from_test m [] e = tt
common_from_test m (r ∷ rs) e = elim (eqb_tells (m % r.period) 0) [
  | inl h ↦ (h.1, common_from_test m rs (let f = rw h.0 at e in f))
  | inr h ↦ let f = rw h.0 at e in cc
]

-- a common multiple passes the test
test_from_common : (m : ℕ) (rates : List Rate) → IsCommonMultiple m rates → list_all (λ r. eqb (m % r.period) 0) rates ≡ true
test_from_common m [] all = refl
test_from_common m (r ∷ rs) all = elim (eqb_tells (m % r.period) 0) [
  | inl h ↦ rw h.0 (test_from_common m rs all.1)
  | inr h ↦ absurd (h.1 all.0)
]

-- what the search finds from `from` on, if there is something within its room
record IsFirst (rates : List Rate) (from found : ℕ) : Type 0 where
  common : IsCommonMultiple found rates
  late : from ≤ found
  least : (k : ℕ) → from ≤ k → IsCommonMultiple k rates → found ≤ k

-- one step of the search, by its test
first_by_test : (rates : List Rate) (room from : ℕ) (b : Bool) → list_all (λ r. eqb (from % r.period) 0) rates ≡ b
    → (b ≡ false → IsFirst rates (from + 1) (common_multiple_from rates (from + 1) room)) → IsFirst rates from (common_multiple_from rates from (suc room))
first_by_test rates room from true e rest = rw (e, common_multiple_from)
    (record { common = common_from_test from rates e; late = omega arith; least = λ k le _. le })
first_by_test rates room from false e rest =
    let found = rest refl in
    rw (e, common_multiple_from) (record {
      common = found.common;
      late = let l = found.late in omega arith;
      least = λ k le all. found.least k (later k le all) all;
    })
  where
    later : (k : ℕ) → from ≤ k → IsCommonMultiple k rates → from + 1 ≤ k
    later k le all = elim (cases_lt from k) [
      | inl lt ↦ omega arith
      | inr ge ↦
          let f : k ≡ from = omega arith in
          let g = rw f at all in
          let t = test_from_common from rates g in
          absurd cc
    ]

-- a search up to a common multiple finds one
first_found : (rates : List Rate) (room from some : ℕ) → IsCommonMultiple some rates → from ≤ some → some ≤ from + room
    → IsFirst rates from (common_multiple_from rates from room)
first_found rates zero from some common low high =
    let e : some ≡ from = omega arith in
    record { common = rw e at common; late = omega arith; least = λ k le _. le }
first_found rates (suc room) from some common low high =
    first_by_test rates room from (list_all (λ r. eqb (from % r.period) 0) rates) refl
    (λ fails. first_found rates room (from + 1) some common
    (elim (cases_lt from some) [
      | inl lt ↦ omega arith
      | inr ge ↦
          let f : some ≡ from = omega arith in
          let g = rw f at common in
          let t = test_from_common from rates g in
          absurd cc
    ])
    (omega arith))

-- the search finds the least common multiple
pub common_multiple-least : (rates : List Rate) → AllLawful rates → IsLeastCommonMultiple (common_multiple rates) rates
unfolding common_multiple
common_multiple-least rates all =
    let first = first_found rates (all_periods rates) 1 (all_periods rates) (all_periods-common rates) (all_periods_some rates all) (omega arith) in
    record {
      some = first.late;
      common = first.common;
      least = λ k some common. first.least k some common;
    }

-- what is left of one common multiple by another is one
common-mod : (m k : ℕ) (rates : List Rate) → IsCommonMultiple m rates → IsCommonMultiple k rates → IsCommonMultiple (k % m) rates
common-mod m k [] a b = tt
common-mod m k (r ∷ rs) a b =
    let of_m = dvd_of_mod-eq-zero r.period a.0 in
    let of_k = dvd_of_mod-eq-zero r.period b.0 in
    (mod-eq-zero_of_dvd r.period ((dvd-mod_iff r.period {m = k} of_m).1 of_k), common-mod m k rs a.1 b.1)

-- the least common multiple divides each common multiple
pub least-dvd : (m k : ℕ) (rates : List Rate) → IsLeastCommonMultiple m rates → IsCommonMultiple k rates → m ∣ k
least-dvd m k rates least common = elim (cases_lt 0 (k % m)) [
  | inl some ↦
      let le = least.least (k % m) some (common-mod m k rates least.common common) in
      let s = least.some in
      absurd (omega arith)
  | inr none ↦ dvd_of_mod-eq-zero m (omega arith)
]

-- a multiple of a common multiple is one
pub common-dvd : (m k : ℕ) (rates : List Rate) → m ∣ k → IsCommonMultiple m rates → IsCommonMultiple k rates
common-dvd m k [] d all = tt
common-dvd m k (r ∷ rs) d all =
    (mod-eq-zero_of_dvd r.period (dvd_trans r.period (dvd_of_mod-eq-zero r.period all.0) d), common-dvd m k rs d all.1)

-- what divides a positive number is positive
pub some_from_dvd : (g a : ℕ) → g ∣ a → 0 < a → 0 < g
some_from_dvd g a d some = elim (cases_lt 0 g) [
  | inl lt ↦ lt
  | inr le ↦
      let zero_is : g ≡ 0 = omega arith in
      let e = mul-div_cancel' g {m = a} d in
      let f : 0 * (a / 0) ≡ a = rw zero_is at e in
      absurd (omega arith)
]

-- what two positive numbers divide, and what divides each such number, is one of them over their greatest common
-- divisor times the other
module _ (a b g l : ℕ) (a_some : 0 < a) (b_some : 0 < b) (gcd : IsGcd a b g) (a_l : a ∣ l) (b_l : b ∣ l) (divides : (k : ℕ) → a ∣ k → b ∣ k → l ∣ k) where
  a_is : g * (a / g) ≡ a
  a_is = mul-div_cancel' g gcd.0

  b_is : g * (b / g) ≡ b
  b_is = mul-div_cancel' g gcd.1

  turned : (x y : ℕ) → g * x ≡ a → g * y ≡ b → x * b ≡ a * y
  turned x y e f = rw (← e, ← f) (omega arith)

  -- each divides the other
  l_dvd : l ∣ a / g * b
  l_dvd = divides (a / g * b) (rw (turned (a / g) (b / g) a_is b_is) (dvd-mul_right a (b / g))) (dvd-mul_left b (a / g))

  -- the product of both is l times some common divisor
  common_divisor : (h : ℕ) → l * h ≡ a * b → h ∣ g
  common_divisor h e = gcd.2 h (rw (← by_b) (dvd-mul_left h (l / b))) (rw (← by_a) (dvd-mul_left h (l / a)))
    where
      by_b : l / b * h ≡ a
      by_b =
          let f = mul-div_cancel' b {m = l} b_l in
          let m : b * (l / b) * h ≡ a * b = rw f e in
          let n : b * (l / b * h) ≡ b * a = omega arith in
          eq_of_mul-eq-mul_left b b_some (l / b * h) a n

      by_a : l / a * h ≡ b
      by_a =
          let f = mul-div_cancel' a {m = l} a_l in
          let m : a * (l / a) * h ≡ a * b = rw f e in
          let n : a * (l / a * h) ≡ a * b = omega arith in
          eq_of_mul-eq-mul_left a a_some (l / a * h) b n

  dvd_l : a / g * b ∣ l
  dvd_l = from_product (a * b / l) (mul-div_cancel' l (divides (a * b) (dvd-mul_right a b) (dvd-mul_left b a)))
    where
      from_product : (h : ℕ) → l * h ≡ a * b → a / g * b ∣ l
      from_product h e =
          let c = a / g * b in
          let w = g / h in
          let w_is = mul-div_cancel' h {m = g} (common_divisor h e) in
          let both : g * (a / g) * b ≡ a * b = rw a_is refl in
          let some : 0 < a * b = mul-le 1 1 a b a_some b_some in
          let m : h * (g / h) * (a / g) * b ≡ l * h = rw (w_is, e) both in
          let n : h * (c * w) ≡ h * l = omega arith in
          let h_some : 0 < h = some_from_dvd h (a * b) (rw (← e) (dvd-mul_left h l)) some in
          let q = eq_of_mul-eq-mul_left h h_some (c * w) l n in
          rw (← q) (dvd-mul_right c w)

  quotient-mul : a / g * b ≡ l
  quotient-mul = dvd_antisymm dvd_l l_dvd

-- the least common multiple of the periods and one more
pub common_multiple-push : (rates : List Rate) (r : Rate) (g : ℕ) → AllLawful rates → IsRate r.budget r.period → IsGcd (common_multiple rates) r.period g
    → common_multiple rates / g * r.period ≡ common_multiple (rates ++ r ∷ [])
common_multiple-push rates r g all ok gcd =
    let old = common_multiple-least rates all in
    let lawful = AllByRecursion-push (λ x. IsRate x.budget x.period) rates r all ok in
    let new = common_multiple-least (rates ++ r ∷ []) lawful in
    let parts = AllByRecursion-from_push (λ x. common_multiple (rates ++ r ∷ []) % x.period ≡ 0) rates r new.common in
    quotient-mul (common_multiple rates) r.period g (common_multiple (rates ++ r ∷ [])) old.some (period_some r ok) gcd
    (least-dvd (common_multiple rates) (common_multiple (rates ++ r ∷ [])) rates old parts.0)
    (dvd_of_mod-eq-zero r.period parts.1)
    (λ k of_old of_new. least-dvd (common_multiple (rates ++ r ∷ [])) k (rates ++ r ∷ []) new
    (AllByRecursion-push (λ x. k % x.period ≡ 0) rates r (common-dvd (common_multiple rates) k rates of_old old.common) (mod-eq-zero_of_dvd r.period of_new)))

-- with no period, each positive number is a common multiple
pub common_multiple-nil : common_multiple [] ≡ 1
unfolding common_multiple
common_multiple-nil = refl
