-- The whole result stays through the units.
use Rattle.std.proofs.Common.{◌≡◌, ℕ, zero, suc, ◌-◌, ◌<◌, refl, ◌∙◌, arith}
use Rattle.cbs_job.specs.Work.{Meaning, Lowers, whole}

-- a unit leaves what a job comes to, by how many units are left
whole_kept_at : {W : Type 0} (work : Meaning W) (n : ℕ) (w : W) → work.left w ≡ n → 0 < n → work.left (work.after w) ≡ n - 1
    → whole work (work.after w) ≡ whole work w
whole_kept_at work zero w e some f = absurd (omega arith)
whole_kept_at work (suc m) w e some f = let f' : work.left (work.after w) ≡ m = omega arith in rw (e, f')

-- a unit keeps the whole result
pub whole_kept : {W : Type 0} (work : Meaning W) → Lowers work → (w : W) → 0 < work.left w → whole work (work.after w) ≡ whole work w
whole_kept work law w some = whole_kept_at work (work.left w) w refl some (law w some)

-- once no unit is left the output is the whole result
pub output_whole : {W : Type 0} (work : Meaning W) (w : W) → work.left w ≡ 0 → work.output w ≡ whole work w
output_whole work w none = rw none refl

-- so it is after the last unit
pub output_last : {W : Type 0} (work : Meaning W) → Lowers work → (w : W) → 0 < work.left w → work.left (work.after w) ≡ 0
    → work.output (work.after w) ≡ whole work w
output_last work law w some none = output_whole work (work.after w) none ∙ whole_kept work law w some
