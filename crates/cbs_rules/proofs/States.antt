-- What every server keeps (`IsState`), through an arrival, a unit, a charge and a replenishment; and that a soft server
-- is never throttled.
use Rattle.std.proofs.Common.{◌≡◌, ℕ, ◌+◌, ◌-◌, ◌≤◌, ◌<◌, true, false, ltb, arith, refl, inl, inr}
use Rattle.std.proofs.lemmas.Bool.{cases_lt}
use Rattle.std.proofs.lemmas.Bool.Decides.{nat_tests}
use Rattle.std.proofs.Math.Nat.{mod-lt}
use Rattle.cbs_rate.specs.Rate.{Rate, IsRate}
use Rattle.cbs_rules.specs.Rules.{State, IsState, fresh_state, after_arrival, after_charge, after_excess, after_unit, after_replenishment}
use Rattle.cbs_rules.specs.declared.mode.Mode.{Mode}
use Rattle.cbs_rules.specs.declared.mode.Mode.TheVariants.{Soft, Throttled}

-- a server keeps it from the start
pub IsState-fresh_state : (r : Rate) → IsRate r.budget r.period → IsState r fresh_state
IsState-fresh_state r ok = record {
  capped = omega arith;
  spent = λ e. refl;
  unspent = λ e some. absurd (omega arith);
  unbegun = λ e. refl;
  unmarked = λ e. refl;
  below = ok.some;
  clear = λ e. refl;
}

-- an arrival at an unthrottled server keeps it
pub IsState-after_arrival : (mode : Mode) (r : Rate) (now : ℕ) (s : State) → IsRate r.budget r.period → IsState r s → s.throttled ≡ false
    → IsState r (after_arrival mode r now s)
IsState-after_arrival mode r now s ok is free = record {
  capped = let a = is.capped in grind (arith, nat_tests);
  spent = let a = is.spent in let b = is.unmarked in grind (arith, nat_tests);
  unspent = let a = is.unspent in let b = ok.some in grind (arith, nat_tests);
  unbegun = let a = is.unbegun in let b = ok.some in let c = ok.within in grind (arith, nat_tests);
  unmarked = let a = is.unmarked in let b = ok.some in let c = ok.within in grind (arith, nat_tests);
  below = let a = is.below in grind (arith, nat_tests);
  clear = let a = is.clear in grind (arith, nat_tests);
}

-- a unit of an unthrottled server that has had its first deadline keeps it
pub IsState-after_unit : (mode : Mode) (r : Rate) (s : State) → IsRate r.budget r.period → IsState r s → s.throttled ≡ false → 0 < s.deadline
    → IsState r (after_unit mode r s)
IsState-after_unit Soft r s ok is free begun = record {
  capped = let a = is.capped in grind (arith, nat_tests);
  spent = let a = is.spent in grind (arith, nat_tests);
  unspent = let a = is.unspent in let b = ok.some in grind (arith, nat_tests);
  unbegun = let a = is.unbegun in let b = ok.some in let c = ok.within in grind (arith, nat_tests);
  unmarked = let a = is.unmarked in grind (arith, nat_tests);
  below = let a = is.below in let b = ok.some in grind (arith, nat_tests);
  clear = let a = is.clear in grind (arith, nat_tests);
}
IsState-after_unit Throttled r s ok is free begun = record {
  capped = let a = is.capped in grind (arith, nat_tests);
  spent = let a = is.spent in grind (arith, nat_tests);
  unspent = let a = is.unspent in let b = ok.some in grind (arith, nat_tests);
  unbegun = let a = is.unbegun in let b = ok.some in let c = ok.within in grind (arith, nat_tests);
  unmarked = let a = is.unmarked in grind (arith, nat_tests);
  below = let a = is.below in let b = ok.some in grind (arith, nat_tests);
  clear = let a = is.clear in grind (arith, nat_tests);
}

-- a charge within the budget, and one beyond it
pub charge_within : (mode : Mode) (r : Rate) (n : ℕ) (s : State) → n < s.budget → after_charge mode r n s ≡ record s { budget = s.budget - n }
charge_within mode r n s h = let t : ltb n s.budget ≡ true = grind (arith, nat_tests) in rw t refl

pub charge_beyond : (mode : Mode) (r : Rate) (n : ℕ) (s : State) → s.budget ≤ n → after_charge mode r n s ≡ after_excess mode r (s.overrun + n - s.budget) s
charge_beyond mode r n s h = let t : ltb n s.budget ≡ false = grind (arith, nat_tests) in rw t refl

-- a charge beyond the budget of a server that has had its first deadline keeps it
pub IsState-after_excess : (mode : Mode) (r : Rate) (e : ℕ) (s : State) → IsRate r.budget r.period → IsState r s → (mode ≡ Soft → s.throttled ≡ false) → 0 < s.deadline
    → IsState r (after_excess mode r e s)
IsState-after_excess Soft r e s ok is soft begun =
    let some = ok.some in
    let rest = mod-lt e some in
    let free = soft refl in
    record {
      capped = omega arith;
      spent = λ t. absurd (cc);
      unspent = λ f b. omega arith;
      unbegun = λ z. absurd (omega arith);
      unmarked = λ z. free;
      below = is.below;
      clear = is.clear;
    }
IsState-after_excess Throttled r e s ok is soft begun = record {
  capped = omega arith;
  spent = λ t. refl;
  unspent = λ f b. absurd (cc);
  unbegun = λ z. refl;
  unmarked = λ z. absurd (omega arith);
  below = mod-lt e ok.some;
  clear = λ f. absurd (cc);
}

-- so does one within it
within_state : (r : Rate) (n : ℕ) (s : State) → IsState r s → n < s.budget → IsState r (record s { budget = s.budget - n })
within_state r n s is h = record {
  capped = let a = is.capped in omega arith;
  spent = λ t. let a = is.spent t in absurd (omega arith);
  unspent = λ f begun. omega arith;
  unbegun = λ z. let a = is.unbegun z in omega arith;
  unmarked = is.unmarked;
  below = is.below;
  clear = is.clear;
}

pub IsState-after_charge : (mode : Mode) (r : Rate) (n : ℕ) (s : State) → IsRate r.budget r.period → IsState r s → (mode ≡ Soft → s.throttled ≡ false) → 0 < s.deadline
    → IsState r (after_charge mode r n s)
IsState-after_charge mode r n s ok is soft begun = elim (cases_lt n s.budget) [
  | inl lt ↦ rw (charge_within mode r n s lt) (within_state r n s is lt)
  | inr ge ↦ rw (charge_beyond mode r n s ge) (IsState-after_excess mode r (s.overrun + n - s.budget) s ok is soft begun)
]

-- a unit throttles no soft server
pub soft_after_unit : (mode : Mode) (r : Rate) (s : State) → (mode ≡ Soft → s.throttled ≡ false) → mode ≡ Soft → (after_unit mode r s).throttled ≡ false
soft_after_unit Soft r s h e = let f = h refl in grind (arith, nat_tests)
soft_after_unit Throttled r s h e = absurd (cc)

-- nor does a replenishment throttle one
pub soft_after_replenishment : (r : Rate) (now : ℕ) (s : State) → s.throttled ≡ false → (after_replenishment r now s).throttled ≡ false
soft_after_replenishment r now s f = grind (arith, nat_tests)

-- nor does a charge
pub soft_after_charge : (mode : Mode) (r : Rate) (n : ℕ) (s : State) → (mode ≡ Soft → s.throttled ≡ false) → mode ≡ Soft → (after_charge mode r n s).throttled ≡ false
soft_after_charge Soft r n s h e = let f = h refl in grind (arith, nat_tests)
soft_after_charge Throttled r n s h e = absurd (cc)

-- a replenishment keeps it, at any time
pub IsState-after_replenishment : (r : Rate) (now : ℕ) (s : State) → IsRate r.budget r.period → IsState r s → IsState r (after_replenishment r now s)
IsState-after_replenishment r now s ok is = record {
  capped = let a = is.capped in let b = is.spent in grind (arith, nat_tests);
  spent = let a = is.spent in grind (arith, nat_tests);
  unspent = let a = is.unspent in let b = is.below in grind (arith, nat_tests);
  unbegun = let a = is.unbegun in let b = ok.some in let c = ok.within in let d = is.unmarked in grind (arith, nat_tests);
  unmarked = let a = is.unmarked in grind (arith, nat_tests);
  below = let a = is.below in let b = ok.some in grind (arith, nat_tests);
  clear = let a = is.clear in grind (arith, nat_tests);
}
