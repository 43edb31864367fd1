-- What an empty plan keeps, and a plan that is asked to take one rate more.
use Rattle.std.proofs.Common.{◌≡◌, ℕ, ◌+◌, ◌*◌, ◌/◌, ◌≤◌, ◌<◌, [], ◌∷◌, ◌++◌, length, Bool, true, false, eqb, Some, None, arith, refl, inl, inr, ◌∙◌}
use Rattle.std.proofs.Common.{length-append}
use Rattle.std.specs.Prelude.{◌↔◌, if◌then◌else◌}
use Rattle.std.specs.List.{sum_by}
use Rattle.std.specs.Int.{IsGcd}
use Rattle.std.proofs.lemmas.Bool.{cases_lt, le-leb, lt-leb}
use Rattle.std.proofs.lemmas.Bool.Decides.{eqb_tells}
use Rattle.cbs_rate.specs.declared.error.AdmitError.TheVariants.{PeriodsTooFine, OverBound}
use Rattle.cbs_rate.specs.declared.plan.Plan.TheInside.{Inside}
use Rattle.cbs_rate.specs.Bound.{Fraction, IsBound}
use Rattle.cbs_rate.specs.Rate.{Rate, IsRate}
use Rattle.cbs_rate.specs.Plan.{IsPlan, IsLeastCommonMultiple, share, total_share, all_periods, common_multiple, fits, admit_refusal}
use Rattle.cbs_rate.specs.Sums.{planned, IsSummed}
use Rattle.cbs_rate.proofs.Lists.{AllByRecursion-push}
use Rattle.cbs_rate.proofs.Multiples.{AllLawful, common_multiple-nil, common_multiple-least, common_multiple-push}
use Rattle.cbs_rate.proofs.Shares.{fits_common, at_most_one, sum_next, old_share-le, new_share-le}

-- a plan with no server is one
pub plan_empty : (bound : Fraction) → IsPlan (record { bound = bound; rates = [] })
plan_empty bound = record {
  few = omega arith;
  lawful = tt;
  coarse = rw common_multiple-nil (omega arith);
  fits = le-leb _ _ (omega arith);
  at_most_one = omega arith;
}

-- a plan that has not 64 servers has fewer
pub room_left : (n : ℕ) (full : Bool) → full ≡ eqb n 64 → full ≡ false → n ≤ 64 → n < 64
room_left n full e none few = elim (eqb_tells n 64) [
  | inl h ↦ let t = h.0 in absurd cc
  | inr h ↦ let differ = h.1 in omega arith
]

-- A summed plan of fewer than 64 rates is asked to take r, of this budget and period, and `next` is the least common
-- multiple then.
pub record IsAsked (p : Inside) (r : Rate) (budget period next : ℕ) : Type 0 where
  summed : IsSummed p
  ok : IsRate r.budget r.period
  budget_is : budget ≡ r.budget
  period_is : period ≡ r.period
  next_is : next ≡ common_multiple (p.rates.items ++ r ∷ [])
  room : length p.rates.items < 64

module _ {p : Inside} (r : Rate) (summed : IsSummed p) (ok : IsRate r.budget r.period) where
  -- the reservations with one more are lawful
  lawful_next : AllLawful (p.rates.items ++ r ∷ [])
  lawful_next = AllByRecursion-push (λ x. IsRate x.budget x.period) p.rates.items r summed.lawful.lawful ok

  -- the common multiple with one more is the least
  pub least_next : IsLeastCommonMultiple (common_multiple (p.rates.items ++ r ∷ [])) (p.rates.items ++ r ∷ [])
  least_next = common_multiple-least (p.rates.items ++ r ∷ []) lawful_next

  -- the common multiple is not 0
  pub common_some : 0 < p.common
  common_some = rw summed.common ((common_multiple-least p.rates.items summed.lawful.lawful).some)

  -- the least common multiple, by way of the greatest common divisor
  pub asked_of : {budget period next : ℕ} {full : Bool} → budget ≡ r.budget → period ≡ r.period
      → ((g : ℕ) × IsGcd p.common period g × (next ≡ p.common / g * period))
      → full ≡ eqb (length p.rates.items) 64 → full ≡ false → IsAsked p r budget period next
  asked_of {full = full} budget_is period_is quotient full_is free = record {
    summed = summed;
    ok = ok;
    budget_is = budget_is;
    period_is = period_is;
    next_is =
        let q = rw (period_is, summed.common) at quotient in
        q.2 ∙ common_multiple-push p.rates.items r q.0 summed.lawful.lawful ok q.1;
    room = room_left (length p.rates.items) full full_is free summed.lawful.few;
  }

module _ {p : Inside} {r : Rate} {budget period next : ℕ} (asked : IsAsked p r budget period next) where
  -- what is taken stays within the common multiple
  pub taken-le : p.taken * (next / p.common) ≤ next
  taken-le = rw (asked.summed.taken, asked.summed.common, asked.next_is)
      (old_share-le p.rates.items r asked.summed.lawful.lawful asked.ok asked.summed.lawful.at_most_one)

  -- so does what is added
  pub added-le : budget * (next / period) ≤ next
  added-le = rw (asked.budget_is, asked.period_is, asked.next_is) (new_share-le p.rates.items r asked.summed.lawful.lawful asked.ok)

  -- the sum over the new least common multiple
  taken_next : p.taken * (next / p.common) + budget * (next / period) ≡ sum_by (share next) (p.rates.items ++ r ∷ [])
  taken_next =
      rw (asked.budget_is, asked.period_is, asked.summed.taken, asked.summed.common, asked.next_is) (sum_next p.rates.items r asked.summed.lawful.lawful asked.ok)

  -- over the product of all periods as over the least common multiple
  fits_next : (p.bound.den * total_share (p.rates.items ++ r ∷ []) ≤ p.bound.num * all_periods (p.rates.items ++ r ∷ []))
      ↔ (p.bound.den * (p.taken * (next / p.common) + budget * (next / period)) ≤ p.bound.num * next)
  fits_next =
      rw (taken_next, asked.next_is) (fits_common p.bound.num p.bound.den (p.rates.items ++ r ∷ []) (lawful_next r asked.summed asked.ok))

  -- periods are refused if their common multiple is too great
  pub refusal_fine : 1_000_000_000_000_000_000 < next → admit_refusal (planned p) r ≡ Some PeriodsTooFine
  refusal_fine fine =
      let m : 1_000_000_000_000_000_000 < common_multiple (p.rates.items ++ r ∷ []) = rw asked.next_is at fine in
      rw (lt-leb 64 (length p.rates.items) asked.room, le-leb 1_000_000_000_000_000_001 (common_multiple (p.rates.items ++ r ∷ [])) m) refl

  -- the first two tests pass
  by_bound : (b : Bool) → next ≤ 1_000_000_000_000_000_000 → fits p.bound (p.rates.items ++ r ∷ []) ≡ b
      → admit_refusal (planned p) r ≡ (if b then None else Some OverBound)
  by_bound b coarse e =
      let m : common_multiple (p.rates.items ++ r ∷ []) ≤ 1_000_000_000_000_000_000 = rw asked.next_is at coarse in
      rw (lt-leb 64 (length p.rates.items) asked.room, lt-leb 1_000_000_000_000_000_001 (common_multiple (p.rates.items ++ r ∷ [])) (omega arith), e) refl

  -- a bandwidth over the bound is refused
  pub refusal_over : next ≤ 1_000_000_000_000_000_000 → ¬ (p.bound.den * (p.taken * (next / p.common) + budget * (next / period)) ≤ p.bound.num * next)
      → admit_refusal (planned p) r ≡ Some OverBound
  refusal_over coarse over = by_bound false coarse
      (elim (cases_lt (p.bound.num * all_periods (p.rates.items ++ r ∷ [])) (p.bound.den * total_share (p.rates.items ++ r ∷ []))) [
        | inl lt ↦ lt-leb _ _ lt
        | inr ge ↦ absurd (over (fits_next.0 ge))
      ])

  module _ (coarse : next ≤ 1_000_000_000_000_000_000) (within : p.bound.den * (p.taken * (next / p.common) + budget * (next / period))
      ≤ p.bound.num * next) where
    -- and else nothing is
    pub refusal_none : admit_refusal (planned p) r ≡ None
    refusal_none = by_bound true coarse (le-leb _ _ (fits_next.1 within))

    -- the sums with one more are those of the plan
    pub summed_next : IsBound p.bound.num p.bound.den
        → IsSummed (record {
          bound = p.bound;
          rates = record { items = p.rates.items ++ r ∷ [] };
          common = next;
          taken = p.taken * (next / p.common) + budget * (next / period);
        })
    summed_next bounded = record {
      lawful =
          let fitting = fits_next.1 within in
          let few = asked.room in
          record {
            few = rw length-append (omega arith);
            lawful = lawful_next r asked.summed asked.ok;
            coarse = rw asked.next_is at coarse;
            fits = le-leb _ _ fitting;
            at_most_one =
                let a = bounded.some in let b = bounded.at_most_one in
                at_most_one p.bound.num p.bound.den (total_share (p.rates.items ++ r ∷ [])) (all_periods (p.rates.items ++ r ∷ [])) b (omega arith) fitting;
          };
      common = asked.next_is;
      taken = taken_next;
    }
