-- The units that a server owes are covered: budget by budget and period by period, from its state to a tick.
use Rattle.std.proofs.Common.{◌≡◌, ℕ, zero, suc, ◌+◌, ◌-◌, ◌*◌, ◌≤◌, ◌<◌, false, arith, refl, inl, inr, ap}
use Rattle.std.specs.Prelude.{max}
use Rattle.std.specs.Int.{div_ceil}
use Rattle.std.proofs.lemmas.Grind.{div_ceil_times}
use Rattle.std.proofs.lemmas.Bool.{cases_Bool, cases_lt}
use Rattle.std.proofs.lemmas.Nat.{mul-le}
use Rattle.cbs_rate.specs.Rate.{Rate, IsRate}
use Rattle.cbs_rules.specs.Rules.{State, IsState, IsPaid, funds, until, is_renewed, after_arrival, after_unit, after_replenishment}
use Rattle.cbs_rules.proofs.Paid.{unit_paid, replenished_funds, replenished_until}
use Rattle.cbs_rules.proofs.States.{IsState-after_unit}
use Rattle.cbs_rules.specs.declared.mode.Mode.{Mode}

-- n units in all, of which some are got, are covered by tick b: so many budgets more, a period each, reach a budget
-- beyond n and end at most a period after b
pub record IsCovered (r : Rate) (n b got : ℕ) (s : State) : Type 0 where
  pub periods : ℕ
  pub units : n + r.budget ≤ got + funds r s + periods * r.budget
  pub by : until r s + periods * r.period ≤ b + r.period

-- what a server may still take is a budget at most
funds-le : (r : Rate) (s : State) → IsState r s → funds r s ≤ r.budget
funds-le r s is = let c = is.capped in elim (cases_Bool s.throttled) [ inl t ↦ rw t (omega arith) | inr f ↦ rw f c ]

-- if a unit is owed, it is due by then
pub covered-until : (r : Rate) (n b got : ℕ) (s : State) → IsState r s → IsCovered r n b got s → got < n → until r s ≤ b
covered-until r n b got s is c owes = let l = funds-le r s is in by_periods c.periods c.units c.by
  where
    by_periods : (k : ℕ) → n + r.budget ≤ got + funds r s + k * r.budget → until r s + k * r.period ≤ b + r.period → until r s ≤ b
    by_periods zero u d = let l = funds-le r s is in absurd (omega arith)
    by_periods (suc k) u d = omega arith

-- what the budgets that come by b suffice for, j beyond the one that a server has, is covered by b
pub covered_from : (r : Rate) (n j got : ℕ) (s : State) → IsState r s → n + s.overrun ≤ got + s.budget + j * r.budget → IsCovered r n (s.deadline + j * r.period) got s
covered_from r n j got s is enough = elim (cases_Bool s.throttled) [
  | inl t ↦
      let none = is.spent t in
      let under = is.below in
      let f : funds r s ≡ r.budget - s.overrun = rw t refl in
      let u : until r s ≡ s.deadline + r.period = rw t refl in
      record { periods = j; units = omega arith; by = omega arith }
  | inr n ↦
      let f : funds r s ≡ s.budget = rw n refl in
      let u : until r s ≡ s.deadline = rw n refl in
      record { periods = suc j; units = omega arith; by = omega arith }
]

-- of so many budgets that a server pays by, no more are needed than cover what is owed
few_budgets : (q n got m f g k p : ℕ) → got + m ≤ n → 0 < q → g ≤ q → g + m ≡ f + k * q → n + q ≤ got + f + p * q → k ≤ p
few_budgets q n got m f g k p owed some capped paid units = elim (cases_lt p k) [
  | inl lt ↦ let l = mul-le (p + 1) q k q (omega arith) (omega arith) in absurd (omega arith)
  | inr ge ↦ ge
]

-- what is paid of it keeps it
pub covered_paid : (r : Rate) (n b got m : ℕ) (s t : State) → 0 < r.budget → IsState r t → got + m ≤ n → IsPaid r m s t → IsCovered r n b got s → IsCovered r n b (got + m) t
covered_paid r n b got m s t some it owed p c =
    let paid = p.paid in
    let postponed = p.postponed in
    let few = few_budgets r.budget n got m (funds r s) (funds r t) p.budgets c.periods owed some (funds-le r t it) paid c.units in
    let e : c.periods ≡ c.periods - p.budgets + p.budgets = omega arith in
    let eq = ap (λ (v : ℕ). v * r.budget) e in
    let et = ap (λ (v : ℕ). v * r.period) e in
    let u = c.units in
    let d = c.by in
    record { periods = c.periods - p.budgets; units = omega arith; by = omega arith }

module _ (r : Rate) (n b got : ℕ) (s : State) where
  -- so does a unit that is owed
  pub covered_unit : (mode : Mode) → IsRate r.budget r.period → IsState r s → s.throttled ≡ false → 0 < s.deadline → got < n
      → IsCovered r n b got s → IsCovered r n b (got + 1) (after_unit mode r s)
  covered_unit mode ok is free begun owes c =
      covered_paid r n b got 1 s (after_unit mode r s) ok.some (IsState-after_unit mode r s ok is free begun) (omega arith)
      (unit_paid mode r s ok.some is free (is.unspent free begun)) c

  -- and a replenishment
  pub covered_replenishment : (now : ℕ) → IsState r s → IsCovered r n b got s → IsCovered r n b got (after_replenishment r now s)
  covered_replenishment now is c =
      let u = c.units in
      let d = c.by in
      record { periods = c.periods; units = rw (replenished_funds r now s is) u; by = rw (replenished_until r now s) d }

  -- m budgets more cover as many units more, by m periods later
  pub covered_queued : (now m : ℕ) → IsCovered r n b got s → IsCovered r (n + m * r.budget) (max b now + m * r.period) got s
  covered_queued now m c =
      let u = c.units in
      let d = c.by in
      record { periods = c.periods + m; units = omega arith; by = omega arith }

  -- so they do if nothing is owed, and a job comes in
  pub covered_arrival : (mode : Mode) (now m : ℕ) → s.throttled ≡ false → got ≡ n → IsCovered r n b got s
      → IsCovered r (n + m * r.budget) (max b now + m * r.period) got (after_arrival mode r now s)
  covered_arrival mode now m free paid c = elim (cases_Bool (is_renewed mode r now s)) [
    | inl t ↦ rw (t, free) (record { periods = m; units = omega arith; by = omega arith })
    | inr f ↦ rw f (covered_queued now m c)
  ]

  -- fewer units are covered, too
  pub covered-less : (fewer : ℕ) → fewer ≤ n → IsCovered r n b got s → IsCovered r fewer b got s
  covered-less fewer le c = let u = c.units in record { periods = c.periods; units = omega arith; by = c.by }

-- What b covers is taken by then, if b and the while have passed. The premise is that what may still be taken is due
-- later than the clock but for the while
pub covered_taken : (r : Rate) (n b taken now late : ℕ) (s : State) → IsState r s → IsCovered r n b taken s → now < until r s + late → b + late ≤ now → n ≤ taken
covered_taken r n b taken now late s is c soon past = elim (cases_lt taken n) [
  | inr done ↦ done
  | inl owes ↦ let by = covered-until r n b taken s is c owes in absurd (omega arith)
]

-- more units need no fewer budgets
ceil-mono : (q m n : ℕ) → 0 < q → m ≤ n → div_ceil m q ≤ div_ceil n q
ceil-mono q m n some le =
    let a = div_ceil_times m q some in
    let b = div_ceil_times n q some in
    elim (cases_lt (div_ceil n q) (div_ceil m q)) [
      | inl lt ↦ let l = mul-le (div_ceil n q + 1) q (div_ceil m q) q (omega arith) (omega arith) in let c = a.1 in let d = b.0 in absurd (omega arith)
      | inr ge ↦ ge
    ]

-- so are more units, by as many periods later as they need budgets more
pub covered_more : (r : Rate) (n b got m k : ℕ) (s : State) → 0 < r.budget → m ≤ k → IsCovered r (n + div_ceil m r.budget * r.budget) (b + div_ceil m r.budget * r.period) got s
    → IsCovered r (n + div_ceil k r.budget * r.budget) (b + div_ceil k r.budget * r.period) got s
covered_more r n b got m k s some le c =
    let mono = ceil-mono r.budget m k some le in
    let e : div_ceil k r.budget ≡ div_ceil m r.budget + (div_ceil k r.budget - div_ceil m r.budget) = omega arith in
    let eq = ap (λ (v : ℕ). v * r.budget) e in
    let et = ap (λ (v : ℕ). v * r.period) e in
    let u = c.units in
    let d = c.by in
    record { periods = c.periods + (div_ceil k r.budget - div_ceil m r.budget); units = omega arith; by = omega arith }
