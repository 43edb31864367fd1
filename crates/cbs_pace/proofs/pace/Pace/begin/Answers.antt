use Rattle.std.proofs.Common.{◌≡◌, ℕ, zero, suc, get_or, refl}
use Rattle.std.specs.Prelude.{replicate}
use Rattle.cbs_pace.proofs.pace.Pace.begin.Goals as goal

-- a list of zeros has no other number at any place
zeros : (z n s : ℕ) → get_or (replicate n z) s z ≡ z
zeros z zero s = refl
zeros z (suc n) zero = refl
zeros z (suc n) (suc s) = zeros z n s

pub invariant_of-result : goal.invariant_of-result
invariant_of-result c = record { long = c.nanos-nanos.ensures.long; servers = refl; less = λ s. let e = zeros 0 64 s in rw e c.nanos-nanos.ensures.long }
