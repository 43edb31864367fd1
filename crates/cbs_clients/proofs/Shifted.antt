-- The lowest bit of a shifted word.
use Rattle.std.proofs.Common.{ℕ, ◌≡◌, ◌≤◌, ◌<◌, ◌-◌, ◌+◌, ◌/◌, ◌%◌, ◌^◌, ap, sym, ◌∙◌, arith}
use Rattle.std.proofs.lemmas.Nat.{shr-shr}
use Rattle.std.proofs.Math.Nat.{div-le_self}
use Rattle.std.specs.Int.{bit_at}

-- bit i of a word from bit k on
pub bit_at-shr : (n k i : ℕ) → bit_at (n / 2 ^ k) i ≡ bit_at n (k + i)
bit_at-shr n k i = ap (λ m. m % 2) (shr-shr n k i)

-- bit s of a word, of which bits from k on are shown
pub bit_at_from : (n k s : ℕ) → k ≤ s → bit_at n s ≡ bit_at (n / 2 ^ k) (s - k)
bit_at_from n k s l = let e : s ≡ k + (s - k) = omega (arith, l) in ap (bit_at n) e ∙ sym (bit_at-shr n k (s - k))

-- a word stays one
pub shifted_less : (n k w : ℕ) → n < 2 ^ w → n / 2 ^ k < 2 ^ w
shifted_less n k w l = let m = div-le_self n (2 ^ k) in omega (arith, l, m)
