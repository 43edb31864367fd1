-- The meaning of a piece of work: a machine that makes one step for each unit, and always has an output.
use Rattle.std.specs.Prelude.{◌≡◌, ℕ, zero, suc, ◌-◌, ◌<◌}

-- the meaning of the calls of a kind of work: how many units are left, the output so far, and the work after one unit
pub record Meaning (W : Type 0) : Type 0 where
  pub left : W → ℕ
  pub output : W → ℕ
  pub after : W → W

-- the law of work: a unit lowers the number of units left by one
abbrev pub Lowers : {W : Type 0} → Meaning W → Type 0
Lowers {W} work = (w : W) → 0 < work.left w → work.left (work.after w) ≡ work.left w - 1

-- the output after n more units
abbrev pub output_after : {W : Type 0} → Meaning W → ℕ → W → ℕ
output_after work zero w = work.output w
output_after work (suc n) w = output_after work n (work.after w)

-- the whole result of a piece of work: its output when no unit is left
abbrev pub whole : {W : Type 0} → Meaning W → W → ℕ
whole work w = output_after work (work.left w) w
