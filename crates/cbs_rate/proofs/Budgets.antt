-- A plan that takes a server takes one with the same period and a smaller budget, too.
use Rattle.std.proofs.Common.{◌≡◌, ℕ, zero, suc, ◌+◌, ◌*◌, ◌/◌, ◌%◌, ◌≤◌, ◌<◌, ◌&&◌, List, [], ◌∷◌, ◌++◌, length, true, false, eqb, leb, ltb, Option, Some, None, arith, refl, ap, inl, inr}
use Rattle.std.specs.List.{list_all}
use Rattle.std.specs.Option.{is_none}
use Rattle.std.proofs.lemmas.Bool.{cases_Bool}
use Rattle.std.proofs.lemmas.Bool.Decides.{nat_tests}
use Rattle.std.proofs.lemmas.Nat.{mul-le}
use Rattle.std.proofs.lemmas.List.Sums.{sum_by_push}
use Rattle.cbs_rate.specs.Bound.{Fraction}
use Rattle.cbs_rate.specs.declared.error.AdmitError.{AdmitError}
use Rattle.cbs_rate.specs.Rate.{Rate}
use Rattle.cbs_rate.specs.Plan.{Planned, share, all_periods, total_share, common_multiple_from, common_multiple, fits, admit_refusal, takes}

module _ (a b : Rate) (same : a.period ≡ b.period) where
  -- the product of all periods is the same
  periods_same : (rates : List Rate) → all_periods (rates ++ a ∷ []) ≡ all_periods (rates ++ b ∷ [])
  periods_same [] = rw same refl
  periods_same (r ∷ rates) = ap (λ n. r.period * n) (periods_same rates)

  -- the same numbers are multiples of all periods
  common_same : (m : ℕ) (rates : List Rate) → list_all (λ r. eqb (m % r.period) 0) (rates ++ a ∷ []) ≡ list_all (λ r. eqb (m % r.period) 0) (rates ++ b ∷ [])
  common_same m [] = rw same refl
  common_same m (r ∷ rates) = ap (λ t. eqb (m % r.period) 0 && t) (common_same m rates)

  -- so they are found alike
  found_same : (rates : List Rate) (from room : ℕ) → common_multiple_from (rates ++ a ∷ []) from room ≡ common_multiple_from (rates ++ b ∷ []) from room
  found_same rates from zero = refl
  found_same rates from (suc room) =
      let e = common_same from rates in
      elim (cases_Bool (list_all (λ r. eqb (from % r.period) 0) (rates ++ b ∷ []))) [
        | inl t ↦ rw (e, t, common_multiple_from) refl
        | inr f ↦ rw (e, f, common_multiple_from) (found_same rates (from + 1) room)
      ]

  -- the least common multiple is the same
  multiple_same : (rates : List Rate) → common_multiple (rates ++ a ∷ []) ≡ common_multiple (rates ++ b ∷ [])
  unfolding common_multiple
  multiple_same rates = let e = periods_same rates in rw e (found_same rates 1 (all_periods (rates ++ b ∷ [])))

  -- the smaller budget takes no more
  total_less : (rates : List Rate) → a.budget ≤ b.budget → total_share (rates ++ a ∷ []) ≤ total_share (rates ++ b ∷ [])
  total_less rates less =
      let ticks = all_periods (rates ++ b ∷ []) in
      let here : share ticks a ≤ share ticks b = rw same (mul-le a.budget (ticks / b.period) b.budget (ticks / b.period) less (omega arith)) in
      rw (periods_same rates, sum_by_push (share ticks) rates a, sum_by_push (share ticks) rates b) (omega arith)

  -- so it fits if the greater does
  fits_less : (bound : Fraction) (rates : List Rate) → a.budget ≤ b.budget → fits bound (rates ++ b ∷ []) ≡ true → fits bound (rates ++ a ∷ []) ≡ true
  fits_less bound rates less h =
      let l = total_less rates less in
      let m = mul-le bound.den (total_share (rates ++ a ∷ [])) bound.den (total_share (rates ++ b ∷ [])) (omega arith) l in
      let p = periods_same rates in
      rw p (grind (arith, nat_tests))

  -- a plan that takes the greater takes the smaller
  admits_less : (plan : Planned) → a.budget ≤ b.budget → admit_refusal plan b ≡ None → admit_refusal plan a ≡ None
  admits_less plan less none = elim (cases_Bool (leb 64 (length plan.rates))) [
    | inl t ↦ let no = rw t at none in cc
    | inr f ↦ elim (cases_Bool (ltb 1000000000000000000 (common_multiple (plan.rates ++ b ∷ [])))) [
      | inl t ↦ let no = rw (f, t) at none in cc
      | inr g ↦ elim (cases_Bool (fits plan.bound (plan.rates ++ b ∷ []))) [
        | inl t ↦ rw (f, multiple_same plan.rates, g, fits_less plan.bound plan.rates less t) refl
        | inr h ↦ let no = rw (f, g, h) at none in cc
      ]
    ]
  ]

-- what is none is `None`
pub none_is : (o : Option AdmitError) → is_none o ≡ true → o ≡ None
none_is None e = refl
none_is (Some x) e = cc

module _ (plan : Planned) (period budget more : ℕ) (some : 0 < budget) (less : budget ≤ more) where
  -- a plan that takes a server takes one with a smaller budget
  takes_less : takes plan more period ≡ true → takes plan budget period ≡ true
  takes_less taken =
      let n : eqb more 0 ≡ false = grind (arith, nat_tests) in
      let m : eqb budget 0 ≡ false = grind (arith, nat_tests) in
      elim (cases_Bool (ltb 1000000000 period)) [
        | inl t ↦ let refused = rw (n, t) at taken in cc
        | inr f ↦ elim (cases_Bool (ltb period more)) [
          | inl t ↦ let refused = rw (n, f, t) at taken in cc
          | inr g ↦
              let within : ltb period budget ≡ false = grind (arith, nat_tests) in
              let admitted = rw (n, f, g) at taken in
              let none = none_is (admit_refusal plan (record { budget = more; period = period })) admitted in
              let also = admits_less (record { budget = budget; period = period }) (record { budget = more; period = period }) refl plan less none in
              rw (m, f, within, also) refl
        ]
      ]

  -- so one that takes none with a budget takes none with a greater one
  pub takes_no_more : takes plan budget period ≡ false → takes plan more period ≡ false
  takes_no_more refused = elim (cases_Bool (takes plan more period)) [
    | inr f ↦ f
    | inl t ↦ absurd (let taken = takes_less t in cc)
  ]
