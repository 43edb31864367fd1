-- What a server pays, in each of the rules.
use Rattle.std.proofs.Common.{◌≡◌, ℕ, ◌+◌, ◌-◌, ◌*◌, ◌/◌, ◌%◌, ◌≤◌, ◌<◌, false, leb, eqb, arith, refl, inl, inr}
use Rattle.std.proofs.lemmas.Bool.{cases_lt, cases_Bool}
use Rattle.std.proofs.lemmas.Bool.Decides.{nat_tests}
use Rattle.std.proofs.lemmas.Nat.{div-add-mod'}
use Rattle.std.proofs.Math.Nat.{mod-lt}
use Rattle.cbs_rate.specs.Rate.{Rate}
use Rattle.cbs_rules.specs.declared.mode.Mode.{Mode}
use Rattle.cbs_rules.specs.declared.mode.Mode.TheVariants.{Soft, Throttled}
use Rattle.cbs_rules.proofs.States.{charge_within, charge_beyond}
use Rattle.cbs_rules.specs.Rules.{State, IsState, IsPaid, funds, until, after_charge, after_excess, after_unit, after_replenishment}

-- a number in whole budgets and a rest
rest : (e q : ℕ) → 0 < q → (e / q * q + e % q ≡ e) × (e % q < q)
rest e q some = (div-add-mod' e q, mod-lt e some)

-- what is paid beyond a budget
excess_paid : (mode : Mode) (r : Rate) (n : ℕ) (s : State) → 0 < r.budget → IsState r s → (mode ≡ Soft → s.throttled ≡ false) → s.budget ≤ n → IsPaid r n s (after_excess mode r (s.overrun + n - s.budget) s)
excess_paid Soft r n s some is soft h =
    let free = soft refl in
    let none = is.clear free in
    let e = s.overrun + n - s.budget in
    let d = rest e r.budget some in
    let a = d.0 in
    let b = d.1 in
    let paid : r.budget - e % r.budget + n ≡ s.budget + (e / r.budget + 1) * r.budget = omega arith in
    rw free record { budgets = e / r.budget + 1; paid = paid; postponed = refl }
excess_paid Throttled r n s some is soft h = elim (cases_Bool s.throttled) [
  | inl t ↦
      let zero = is.spent t in
      let under = is.below in
      let e = s.overrun + n - s.budget in
      let d = rest e r.budget some in
      let a = d.0 in
      let b = d.1 in
      let paid : r.budget - e % r.budget + n ≡ r.budget - s.overrun + e / r.budget * r.budget = omega arith in
      rw t record { budgets = e / r.budget; paid = paid; postponed = omega arith }
  | inr f ↦
      let none = is.clear f in
      let e = s.overrun + n - s.budget in
      let d = rest e r.budget some in
      let a = d.0 in
      let b = d.1 in
      let paid : r.budget - e % r.budget + n ≡ s.budget + (e / r.budget + 1) * r.budget = omega arith in
      let later : s.deadline + e / r.budget * r.period + r.period ≡ s.deadline + (e / r.budget + 1) * r.period = omega arith in
      rw f record { budgets = e / r.budget + 1; paid = paid; postponed = later }
]

-- what is paid of a budget: a server that waits has none
within_paid : (mode : Mode) (r : Rate) (n : ℕ) (s : State) → IsState r s → n < s.budget → IsPaid r n s (record s { budget = s.budget - n })
within_paid mode r n s is h = elim (cases_Bool s.throttled) [
  | inl t ↦ let zero = is.spent t in absurd (omega arith)
  | inr f ↦ rw f record { budgets = 0; paid = omega arith; postponed = omega arith }
]

-- a charge of n ticks pays n
pub charge_paid : (mode : Mode) (r : Rate) (n : ℕ) (s : State) → 0 < r.budget → IsState r s → (mode ≡ Soft → s.throttled ≡ false) → IsPaid r n s (after_charge mode r n s)
charge_paid mode r n s some is soft = elim (cases_lt n s.budget) [
  | inl lt ↦ rw (charge_within mode r n s lt) (within_paid mode r n s is lt)
  | inr ge ↦ rw (charge_beyond mode r n s ge) (excess_paid mode r n s some is soft ge)
]

-- a unit pays one tick
pub unit_paid : (mode : Mode) (r : Rate) (s : State) → 0 < r.budget → IsState r s → s.throttled ≡ false → 0 < s.budget → IsPaid r 1 s (after_unit mode r s)
unit_paid Soft r s some is free has = elim (cases_Bool (eqb (s.budget - 1) 0)) [
  | inl t ↦
      let one : s.budget ≡ 1 = grind (arith, nat_tests) in
      let z = is.clear free in
      rw (t, free) record { budgets = 1; paid = omega arith; postponed = omega arith }
  | inr f ↦ rw (f, free) record { budgets = 0; paid = omega arith; postponed = omega arith }
]
unit_paid Throttled r s some is free has = elim (cases_Bool (eqb (s.budget - 1) 0)) [
  | inl t ↦
      let one : s.budget ≡ 1 = grind (arith, nat_tests) in
      let z = is.clear free in
      rw (t, free) record { budgets = 1; paid = omega arith; postponed = omega arith }
  | inr f ↦ rw (f, free) record { budgets = 0; paid = omega arith; postponed = omega arith }
]

-- a replenishment leaves what may still be taken, and by when
pub replenished_funds : (r : Rate) (now : ℕ) (s : State) → IsState r s → funds r (after_replenishment r now s) ≡ funds r s
replenished_funds r now s is = elim (cases_Bool s.throttled) [
  | inl t ↦ elim (cases_Bool (leb s.deadline now)) [
    | inl due ↦ let zero = is.spent t in let sum : s.budget + r.budget - s.overrun ≡ r.budget - s.overrun = omega arith in rw (t, due) sum
    | inr early ↦ rw (t, early) refl
  ]
  | inr f ↦ rw f (let e : s.budget ≡ s.budget = refl in grind (arith, nat_tests))
]

pub replenished_until : (r : Rate) (now : ℕ) (s : State) → until r (after_replenishment r now s) ≡ until r s
replenished_until r now s = elim (cases_Bool s.throttled) [
  | inl t ↦ elim (cases_Bool (leb s.deadline now)) [
    | inl due ↦ rw (t, due) refl
    | inr early ↦ rw (t, early) refl
  ]
  | inr f ↦ rw f (grind (arith, nat_tests))
]
