-- What divides multiples of two numbers divides as great a multiple of a remainder.
use Rattle.std.proofs.Common.{◌≡◌, ℕ, ◌+◌, ◌*◌, ◌/◌, ◌%◌, arith}
use Rattle.std.specs.Int.{◌∣◌}
use Rattle.std.proofs.lemmas.Nat.{div-add-mod'}
use native.Mathlib.Nat.{dvd-add_iff_right, dvd-mul_left_of_dvd}

-- what divides the multiples of two numbers divides that of the rest of their division
pub scaled_mod : (d k a b : ℕ) → d ∣ k * a → d ∣ k * b → d ∣ k * (a % b)
scaled_mod d k a b of_a of_b =
    let parts = div-add-mod' a b in
    let sum : a / b * (k * b) + k * (a % b) ≡ k * a = split (a / b) (a % b) parts in
    (dvd-add_iff_right d {m = a / b * (k * b)} {n = k * (a % b)} (dvd-mul_left_of_dvd d of_b (a / b))).1 (rw sum of_a)
  where
    split : (q r : ℕ) → q * b + r ≡ a → q * (k * b) + k * r ≡ k * a
    split q r e = rw (← e) (omega arith)
