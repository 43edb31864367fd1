-- Units of a server, one after another: they are paid for.
use Rattle.std.proofs.Common.{ℕ, ◌<◌, List, [], ◌∷◌, arith, refl}
use Rattle.cbs_pace.specs.declared.rounding.Rounding.{Rounding}
use Rattle.cbs_pace.specs.declared.rounding.Rounding.TheVariants.{Up, Carry}
use Rattle.cbs_pace.specs.Ledgers.{Ledger, with_unit, with_units, IsPaidFor, IsChargedRightly, IsBalanced, IsPaid}
use Rattle.cbs_pace.proofs.Units.{unit_paid, carried_exactly, rounded_up, rounded_less, carried_less}

one_paid : (r : Rounding) (tick took : ℕ) (a b : Ledger) → 0 < tick → IsPaidFor tick a b → IsPaidFor tick a (with_unit r tick took b)
one_paid r tick took a b long h = omega (arith, unit_paid r tick b.carried took long)

one_rightly : (r : Rounding) (tick took : ℕ) (a b : Ledger) → 0 < tick → IsChargedRightly r tick a b → IsChargedRightly r tick a (with_unit r tick took b)
one_rightly Up tick took a b long h = (h.0, omega (arith, h.1, rounded_up tick b.carried took long), omega (arith, h.2, rounded_less tick b.carried took long))
one_rightly Carry tick took a b long h = omega (arith, h, carried_exactly tick b.carried took long)

one_balanced : (r : Rounding) (tick took : ℕ) (a b : Ledger) → IsBalanced tick a b → IsBalanced tick a (with_unit r tick took b)
one_balanced r tick took a b h = omega arith

none_rightly : (r : Rounding) (tick : ℕ) (a : Ledger) → IsChargedRightly r tick a a
none_rightly Up tick a = (refl, omega arith, omega arith)
none_rightly Carry tick a = refl

-- whatever units a server gets, they are paid for
pub units_paid : (r : Rounding) (tick : ℕ) (a : Ledger) (units : List ℕ) → 0 < tick → IsPaid r tick a (with_units r tick a units)
units_paid r tick a [] long = record { paid = omega arith; rightly = none_rightly r tick a; balanced = refl; less = λ h. h }
units_paid r tick a (took ∷ ts) long =
    let before = units_paid r tick a ts long in
    let b = with_units r tick a ts in
    record {
      paid = one_paid r tick took a b long before.paid;
      rightly = one_rightly r tick took a b long before.rightly;
      balanced = one_balanced r tick took a b before.balanced;
      less = λ h. carried_less r tick b.carried took long (before.less h);
    }
