-- What a server's units come to, by the time that each took.
use Rattle.std.specs.Prelude.{ℕ, ◌≡◌, ◌+◌, ◌-◌, ◌*◌, ◌≤◌, ◌<◌, min, List, [], ◌∷◌}
use Rattle.cbs_pace.specs.declared.rounding.Rounding.{Rounding}
use Rattle.cbs_pace.specs.declared.rounding.Rounding.TheVariants.{Up, Carry}
use Rattle.cbs_pace.specs.Units.{charge_of, carried_of}

-- How many units a server got, and the time that they took. How many of them took longer than a
-- tick, and how much longer in all. By how much the others were shorter than a tick. The ticks that
-- were charged, and the time that is carried to the next unit
pub record Ledger : Type 0 where
  pub units : ℕ
  pub measured : ℕ
  pub overruns : ℕ
  pub beyond : ℕ
  pub spare : ℕ
  pub charged : ℕ
  pub carried : ℕ

-- before the first unit
abbrev pub new_ledger : Ledger
new_ledger = record {
  units = 0;
  measured = 0;
  overruns = 0;
  beyond = 0;
  spare = 0;
  charged = 0;
  carried = 0;
}

-- after one more unit, which took so long
abbrev pub with_unit : Rounding → ℕ → ℕ → Ledger → Ledger
with_unit r tick took l = record {
  units = l.units + 1;
  measured = l.measured + took;
  overruns = l.overruns + min 1 (took - tick);
  beyond = l.beyond + (took - tick);
  spare = l.spare + (tick - took);
  charged = l.charged + charge_of r tick l.carried took;
  carried = carried_of r tick l.carried took;
}

-- after some more units, the newest first
abbrev pub with_units : Rounding → ℕ → Ledger → List ℕ → Ledger
with_units r tick l [] = l
with_units r tick l (took ∷ ts) = with_unit r tick took (with_units r tick l ts)

-- the ticks that a server took: its units, and what it was charged
abbrev pub ticks_taken : Ledger → ℕ
ticks_taken l = l.units + l.charged

-- From before to after, the units were paid for in full. The time that they took, with what was
-- carried before, is at most the ticks that were taken, with what is carried after. Each subtracted
-- number stands on the other side
abbrev pub IsPaidFor : ℕ → Ledger → Ledger → Type 0
IsPaidFor tick before after =
    after.measured + before.carried + ticks_taken before * tick
    ≤ before.measured + after.carried + ticks_taken after * tick

-- Nothing was charged but what the units took beyond a tick. If that is rounded up, less than a
-- tick was added for each of them that took longer
abbrev pub IsChargedRightly : Rounding → ℕ → Ledger → Ledger → Type 0
IsChargedRightly Up tick before after = (after.carried ≡ before.carried)
    × (after.beyond + before.charged * tick ≤ before.beyond + after.charged * tick)
    × (after.charged * tick + before.overruns * (tick - 1) + before.beyond
    ≤ before.charged * tick + after.overruns * (tick - 1) + after.beyond)
IsChargedRightly Carry tick before after =
    after.charged * tick + after.carried + before.beyond
    ≡ before.charged * tick + before.carried + after.beyond

-- the time that the units took is a tick for each, less what was spare, and what they took beyond
-- it
abbrev pub IsBalanced : ℕ → Ledger → Ledger → Type 0
IsBalanced tick before after =
    after.measured + after.spare + before.units * tick + before.beyond
    ≡ before.measured + before.spare + after.units * tick + after.beyond

-- In any window of a server's units: they were paid for and charged rightly, and less than a tick
-- is carried
pub record IsPaid (r : Rounding) (tick : ℕ) (before after : Ledger) : Type 0 where
  pub paid : IsPaidFor tick before after
  pub rightly : IsChargedRightly r tick before after
  pub balanced : IsBalanced tick before after
  pub less : before.carried < tick → after.carried < tick
