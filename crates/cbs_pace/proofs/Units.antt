-- One unit: what it is charged is what it took.
use Rattle.std.proofs.Common.{◌≡◌, ℕ, ◌+◌, ◌-◌, ◌*◌, ◌/◌, ◌≤◌, ◌<◌, min, arith, inl, inr}
use Rattle.std.proofs.lemmas.Bool.{cases_lt}
use Rattle.std.proofs.lemmas.Nat.{div_below}
use Rattle.cbs_pace.specs.declared.rounding.Rounding.{Rounding}
use Rattle.cbs_pace.specs.declared.rounding.Rounding.TheVariants.{Up, Carry}
use Rattle.cbs_pace.specs.Units.{charge_of, carried_of}

-- what a unit took, and what was carried before it, is at most its ticks and what is carried after it
pub unit_paid : (r : Rounding) (tick carried took : ℕ) → 0 < tick → took + carried ≤ (1 + charge_of r tick carried took) * tick + carried_of r tick carried took
unit_paid Up tick carried took long = omega arith
unit_paid Carry tick carried took long = omega arith

-- what a unit took beyond a tick is charged: exactly, but for what is carried
pub carried_exactly : (tick carried took : ℕ) → 0 < tick
    → charge_of Carry tick carried took * tick + carried_of Carry tick carried took ≡ carried + (took - tick)
carried_exactly tick carried took long = omega arith

-- what a unit took beyond a tick is charged: rounded up, it is no less
pub rounded_up : (tick carried took : ℕ) → 0 < tick → took - tick ≤ charge_of Up tick carried took * tick
rounded_up tick carried took long = omega arith

-- and more by less than a tick, if it took longer than one
pub rounded_less : (tick carried took : ℕ) → 0 < tick → charge_of Up tick carried took * tick ≤ (took - tick) + min 1 (took - tick) * (tick - 1)
rounded_less tick carried took long = elim (cases_lt (took - 1) tick) [
  | inl short ↦ let h : took - 1 < 1 * tick = omega arith in let none : (took - 1) / tick < 1 = div_below (took - 1) tick 1 long h in
      let e : (took - 1) / tick ≡ 0 = omega arith in rw e (omega arith)
  | inr more ↦ let e : min 1 (took - tick) ≡ 1 = omega arith in rw e (omega arith)
]

-- less than a tick is carried
pub carried_less : (r : Rounding) (tick carried took : ℕ) → 0 < tick → carried < tick → carried_of r tick carried took < tick
carried_less Up tick carried took long less = less
carried_less Carry tick carried took long less = omega arith

-- no unit is charged more time than it took
pub charge_within : (r : Rounding) (tick carried took : ℕ) → 0 < tick → carried < tick → charge_of r tick carried took * tick ≤ took
charge_within Up tick carried took long less = omega arith
charge_within Carry tick carried took long less = elim (cases_lt took tick) [
  | inl short ↦
      let h : carried + (took - tick) < 1 * tick = omega arith in
      let none : (carried + (took - tick)) / tick < 1 = div_below (carried + (took - tick)) tick 1 long h in
      let e : (carried + (took - tick)) / tick ≡ 0 = omega arith in rw e (omega arith)
  | inr more ↦ omega arith
]
