-- The bandwidth of rates as a fraction, that of one rate more, and the least period at which a budget fits.
use Rattle.std.proofs.Common.{◌≡◌, ℕ, zero, suc, ◌+◌, ◌-◌, ◌*◌, ◌/◌, ◌≤◌, ◌<◌, List, [], ◌∷◌, ◌++◌, length, true, false, eqb, leb, ltb, None, arith, refl, inl, inr, ◌∙◌}
use Rattle.std.specs.Prelude.{◌↔◌}
use Rattle.std.specs.Int.{IsGcd, div_ceil}
use Rattle.std.proofs.lemmas.Grind.{div_ceil_times}
use Rattle.std.specs.List.{sum_by}
use Rattle.std.proofs.lemmas.Bool.{cases_lt, cases_Bool, le-leb, leb-true}
use Rattle.std.proofs.lemmas.Bool.Decides.{nat_tests}
use Rattle.std.proofs.lemmas.Nat.{mul-le}
use Rattle.std.proofs.lemmas.List.Sums.{sum_by_push}
use Rattle.std.proofs.Math.Nat.{mul-div_cancel_left}
use Rattle.cbs_rate.specs.Bound.{Fraction, IsBound}
use Rattle.cbs_rate.specs.Rate.{Rate, IsRate}
use Rattle.cbs_rate.specs.Plan.{Planned, IsPlan, share, all_periods, total_share, common_multiple, fits, admit_refusal, takes}
use Rattle.cbs_rate.specs.Room.{IsBandwidth, IsExcess, has_room, IsLeastPeriod}
use Rattle.cbs_rate.proofs.Budgets.{none_is}
use Rattle.cbs_rate.proofs.Multiples.{AllLawful, all_periods_some, all_periods-common, common_multiple-least, common_multiple-push}
use Rattle.cbs_rate.proofs.Shares.{cancel, product_is, sum_scaled}

-- the bandwidth over the least common multiple of all periods
pub total_is : (rates : List Rate) → AllLawful rates → IsBandwidth rates (sum_by (share (common_multiple rates)) rates) (common_multiple rates)
total_is rates all =
    let m = common_multiple rates in
    let n = all_periods rates / m in
    let least = common_multiple-least rates all in
    let e = sum_scaled m n rates all least.common in
    let p = product_is rates all in
    let f : total_share rates ≡ n * sum_by (share m) rates = rw p at e in
    record {
      some = least.some;
      exact = crossed n m (sum_by (share m) rates) (all_periods rates) (total_share rates) f p;
    }
  where
    crossed : (n m s p t : ℕ) → t ≡ n * s → n * m ≡ p → s * p ≡ t * m
    crossed n m s p t e f = rw (e, ← f) (omega arith)

module _ (rates : List Rate) (r : Rate) (all : AllLawful rates) (some : 0 < r.period) where
  -- the product of all periods and one more
  periods_next : (rates : List Rate) → all_periods (rates ++ r ∷ []) ≡ r.period * all_periods rates
  periods_next [] = refl
  periods_next (x ∷ xs) = rw (periods_next xs) (omega arith)

  -- what all servers and one more may run in it
  total_next : total_share (rates ++ r ∷ []) ≡ r.period * total_share rates + r.budget * all_periods rates
  total_next =
      let ticks = r.period * all_periods rates in
      let q = mul-div_cancel_left (all_periods rates) some in
      let e = sum_scaled (all_periods rates) r.period rates all (all_periods-common rates) in
      rw (periods_next rates, sum_by_push (share ticks) rates r, e, q) refl

  -- the bandwidth with one more
  pub bandwidth_next : (part whole : ℕ) → IsBandwidth rates part whole
      → IsBandwidth (rates ++ r ∷ []) (part * r.period + r.budget * whole) (whole * r.period)
  bandwidth_next part whole h = record {
    some = mul-le 1 1 whole r.period h.some some;
    exact = crossed part whole r.budget r.period (all_periods rates) (total_share rates) _ _ h.exact (periods_next rates) total_next;
  }
    where
      crossed : (part whole q t p s p' s' : ℕ) → part * p ≡ s * whole → p' ≡ t * p → s' ≡ t * s + q * p
          → (part * t + q * whole) * p' ≡ s' * (whole * t)
      crossed part whole q t p s p' s' e f g =
          let h : t * t * (part * p) ≡ t * t * (s * whole) = rw e refl in
          rw (f, g) (omega arith)

  -- the product with one more is positive
  pub periods_next_some : 0 < all_periods (rates ++ r ∷ [])
  periods_next_some = rw (periods_next rates) (mul-le 1 1 r.period (all_periods rates) some (all_periods_some rates all))

-- the least common multiple with one more, by way of the greatest common divisor
pub multiple_with : (rates : List Rate) (r : Rate) (common period next : ℕ) → AllLawful rates → IsRate r.budget r.period → common ≡ common_multiple rates
    → period ≡ r.period → ((g : ℕ) × IsGcd common period g × (next ≡ common / g * period)) → next ≡ common_multiple (rates ++ r ∷ [])
multiple_with rates r common period next all ok common_is period_is quotient =
    let q = rw (period_is, common_is) at quotient in
    q.2 ∙ common_multiple-push rates r q.0 all ok q.1

-- a bandwidth of at most one
pub bandwidth_at_most_one : (rates : List Rate) (part whole : ℕ) → 0 < all_periods rates → total_share rates ≤ all_periods rates → IsBandwidth rates part whole
    → part ≤ whole
bandwidth_at_most_one rates part whole some le h = at_most (all_periods rates) (total_share rates) some le h.exact
  where
    at_most : (p s : ℕ) → 0 < p → s ≤ p → part * p ≡ s * whole → part ≤ whole
    at_most p s some le e =
        let m = mul-le s whole p whole le (omega arith) in
        cancel p part whole some (omega arith)

-- what is within the bound over one whole is within it over another
module _ (num den part whole p s : ℕ) (same : part * p ≡ s * whole) where
  scaled : den * (part * p) ≡ den * (s * whole)
  scaled = rw same refl

  over_periods : 0 < whole → den * part ≤ num * whole → den * s ≤ num * p
  over_periods some le =
      let m = mul-le p (den * part) p (num * whole) (omega arith) le in
      let f = scaled in
      cancel whole (den * s) (num * p) some (omega arith)

  over_whole : 0 < p → den * s ≤ num * p → den * part ≤ num * whole
  over_whole some le =
      let m = mul-le whole (den * s) whole (num * p) (omega arith) le in
      let f = scaled in
      cancel p (den * part) (num * whole) some (omega arith)

-- rates fit if their bandwidth is within the bound
pub fits_within : (bound : Fraction) (rates : List Rate) (part whole : ℕ) → IsBandwidth rates part whole → bound.den * part ≤ bound.num * whole
    → fits bound rates ≡ true
fits_within bound rates part whole h le =
    le-leb _ _ (over_periods bound.num bound.den part whole (all_periods rates) (total_share rates) h.exact h.some le)

-- and only then
within_fits : (bound : Fraction) (rates : List Rate) (part whole : ℕ) → 0 < all_periods rates → IsBandwidth rates part whole → fits bound rates ≡ true
    → bound.den * part ≤ bound.num * whole
within_fits bound rates part whole some h fit =
    over_whole bound.num bound.den part whole (all_periods rates) (total_share rates) h.exact some (leb-true _ _ fit)

-- the bandwidth of a plan is within its bound
pub within_bound : {plan : Planned} {part whole : ℕ} → IsPlan plan → IsBandwidth plan.rates part whole → plan.bound.den * part ≤ plan.bound.num * whole
within_bound {plan} lawful total =
    within_fits plan.bound plan.rates _ _ (all_periods_some plan.rates lawful.lawful) total lawful.fits

-- by how much a bandwidth passes the bound
pub excess_is : (bound : Fraction) (rates : List Rate) (part whole : ℕ) → 0 < bound.den → IsBandwidth rates part whole
    → bound.num * whole < bound.den * part → IsExcess bound rates (bound.den * part - bound.num * whole) (bound.den * whole)
excess_is bound rates part whole den h over = record {
  more = omega arith;
  exact = record {
    some = mul-le 1 1 bound.den (bound.den * whole) den (mul-le 1 1 bound.den whole den h.some);
    exact = crossed bound.num bound.den part whole _ (all_periods rates) (total_share rates) (omega arith) h.exact;
  };
}
  where
    crossed : (num den part whole more p s : ℕ) → num * whole + more ≡ den * part → part * p ≡ s * whole
        → (num * (den * whole) + more * den) * p ≡ s * (den * (den * whole))
    crossed num den part whole more p s e f =
        let g : den * p * (num * whole + more) ≡ den * p * (den * part) = rw e refl in
        let h : den * den * (part * p) ≡ den * den * (s * whole) = rw f refl in
        omega arith

-- what a plan takes is a reservation, and there is room for it
pub takes_room : (plan : Planned) (budget period : ℕ) → takes plan budget period ≡ true → IsRate budget period × (has_room plan budget period ≡ true)
takes_room plan budget period taken = elim (cases_Bool (eqb budget 0)) [
  | inl t ↦ let no = rw t at taken in cc
  | inr e ↦ elim (cases_Bool (ltb 1000000000 period)) [
    | inl t ↦ let no = rw (e, t) at taken in cc
    | inr f ↦ elim (cases_Bool (ltb period budget)) [
      | inl t ↦ let no = rw (e, f, t) at taken in cc
      | inr g ↦
          let admitted = rw (e, f, g) at taken in
          let none = none_is (admit_refusal plan (record { budget = budget; period = period })) admitted in (
            record {
              some = grind (arith, nat_tests);
              within = grind (arith, nat_tests);
              short = grind (arith, nat_tests);
            },
            room none,
          )
    ]
  ]
]
  where
    room : admit_refusal plan (record { budget = budget; period = period }) ≡ None → has_room plan budget period ≡ true
    room none = elim (cases_Bool (leb 64 (length plan.rates))) [
      | inl t ↦ let no = rw t at none in cc
      | inr f ↦ elim (cases_Bool (ltb 1000000000000000000 (common_multiple (plan.rates ++ record { budget = budget; period = period } ∷ [])))) [
        | inl t ↦ let no = rw (f, t) at none in cc
        | inr g ↦ elim (cases_Bool (has_room plan budget period)) [
          | inl t ↦ t
          | inr h ↦ let no = rw (f, g, h) at none in cc
        ]
      ]
    ]

-- What is left of the bound, in ticks of den times whole: `left`. The budget needs `den * budget * whole / period` of
-- them.
module _ {plan : Planned} {part whole : ℕ} (budget left : ℕ) (lawful : IsPlan plan) (total : IsBandwidth plan.rates part whole)
    (left_is : plan.bound.den * part + left ≡ plan.bound.num * whole) where
  -- the budget stays within the bound exactly if enough is left at this period
  crossed : (num den period : ℕ) → den * part + left ≡ num * whole
      → (den * (part * period + budget * whole) ≤ num * (whole * period)) ↔ (den * budget * whole ≤ left * period)
  crossed num den period e =
      let f : period * (den * part + left) ≡ period * (num * whole) = rw e refl in
      (λ h. omega arith, λ h. omega arith)

  module _ (period : ℕ) (some : 0 < period) where
    with_next : IsBandwidth (plan.rates ++ record { budget = budget; period = period } ∷ []) (part * period + budget * whole) (whole * period)
    with_next = bandwidth_next plan.rates (record { budget = budget; period = period }) lawful.lawful some part whole total

    -- there is room if enough is left
    room_if : plan.bound.den * budget * whole ≤ left * period → has_room plan budget period ≡ true
    room_if le = fits_within plan.bound _ _ _ with_next ((crossed plan.bound.num plan.bound.den period left_is).1 le)

    -- and only then
    room_only : has_room plan budget period ≡ true → plan.bound.den * budget * whole ≤ left * period
    room_only room =
        (crossed plan.bound.num plan.bound.den period left_is).0
        (within_fits plan.bound _ _ _ (periods_next_some plan.rates (record { budget = budget; period = period }) lawful.lawful some) with_next room)

    no_room : left * period < plan.bound.den * budget * whole → has_room plan budget period ≡ false
    no_room lt = elim (cases_Bool (has_room plan budget period)) [
      | inl t ↦ let le = room_only t in absurd (omega arith)
      | inr f ↦ f
    ]

  -- at a period that the plan takes, enough is left
  taken_by : (period : ℕ) → takes plan budget period ≡ true → IsRate budget period × (plan.bound.den * budget * whole ≤ left * period)
  taken_by period taken =
      let room = takes_room plan budget period taken in
      let some = room.0.some in
      let within = room.0.within in
      (room.0, room_only period (omega arith) room.1)

  -- a budget needs something
  needs_some : 0 < plan.bound.den → 0 < budget → 0 < plan.bound.den * budget * whole
  needs_some den some = mul-le 1 1 (plan.bound.den * budget) whole (mul-le 1 1 plan.bound.den budget den some) total.some

  -- no period is the least if nothing is left
  pub none_left : 0 < plan.bound.den → left ≡ 0 → (period : ℕ) → ¬ (IsLeastPeriod plan budget period)
  none_left den none period h =
      let taken = taken_by period h.fits in
      let some = needs_some den taken.0.some in
      let e : left * period ≡ 0 = rw none (omega arith) in
      let le = taken.1 in
      absurd (omega arith)

  module _ (ceil : ℕ) (enough : plan.bound.den * budget * whole ≤ ceil * left) (short : ceil * left < plan.bound.den * budget * whole + left) where
    -- below the quotient, rounded up, not enough is left
    below : (less : ℕ) → less < ceil → left * less < plan.bound.den * budget * whole
    below less lt = let m = mul-le (less + 1) left ceil left (omega arith) (omega arith) in omega arith

    -- so the quotient is the least period, if the plan takes it
    pub least_is : takes plan budget ceil ≡ true → IsLeastPeriod plan budget ceil
    least_is taken = record {
      fits = taken;
      least = λ less some lt. no_room less some (below less lt);
    }

    -- a product that is positive has no factor 0
    factor : (n : ℕ) → 0 < n * left → 0 < n
    factor zero some = absurd (omega arith)
    factor (suc n) some = omega arith

    -- and a least period is the quotient
    pub least_from : 0 < plan.bound.den → (period : ℕ) → IsLeastPeriod plan budget period → (period ≡ ceil) × IsRate budget period
    least_from den period h = (
      elim (cases_lt period ceil) [
        | inl lt ↦ let no = below period lt in let yes = taken.1 in absurd (omega arith)
        | inr ge ↦ elim (cases_lt ceil period) [
          | inl lt ↦
              let needs = needs_some den taken.0.some in
              let some = factor ceil (omega arith) in
              let no = h.least ceil some lt in
              let yes = room_if ceil some (omega arith) in
              absurd cc
          | inr le ↦ omega arith
        ]
      ],
      taken.0,
    )
      where
        taken : IsRate budget period × (plan.bound.den * budget * whole ≤ left * period)
        taken = taken_by period h.fits

-- The same, of the numbers that the code has.
module _ {plan : Planned} {part whole num den : ℕ} (budget : ℕ) (lawful : IsPlan plan) (total : IsBandwidth plan.rates part whole)
    (bounded : IsBound plan.bound.num plan.bound.den) (num_is : num ≡ plan.bound.num) (den_is : den ≡ plan.bound.den) where
  den_some : 0 < plan.bound.den
  den_some = let some = bounded.some in let at_most_one = bounded.at_most_one in omega arith

  left_is : plan.bound.den * part + (num * whole - den * part) ≡ plan.bound.num * whole
  left_is = let within = within_bound lawful total in rw (num_is, den_is) (omega arith)

  -- nothing is left
  pub no_period_left : num * whole - den * part ≡ 0 → (period : ℕ) → ¬ (IsLeastPeriod plan budget period)
  no_period_left none = none_left budget (num * whole - den * part) lawful total left_is den_some none

  module _ (ceil : ℕ) (some : 0 < num * whole - den * part) (ceil_is : ceil ≡ div_ceil (den * budget * whole) (num * whole - den * part)) where
    times : (plan.bound.den * budget * whole ≤ ceil * (num * whole - den * part))
        × (ceil * (num * whole - den * part) < plan.bound.den * budget * whole + (num * whole - den * part))
    times =
        let t = div_ceil_times (den * budget * whole) (num * whole - den * part) some in
        rw (ceil_is, ← den_is) t

    -- the quotient is the least period, if the plan takes it
    pub quotient_is_least : takes plan budget ceil ≡ true → IsLeastPeriod plan budget ceil
    quotient_is_least = least_is budget (num * whole - den * part) lawful total left_is ceil times.0 times.1

    -- and otherwise there is none
    pub no_other_period : (takes plan budget ceil ≡ true → IsRate budget ceil → ⊥) → (period : ℕ) → ¬ (IsLeastPeriod plan budget period)
    no_other_period refused period h =
        let is = least_from budget (num * whole - den * part) lawful total left_is ceil times.0 times.1 den_some period h in
        let e = is.0 in
        refused (rw e at h.fits) (rw e at is.1)
