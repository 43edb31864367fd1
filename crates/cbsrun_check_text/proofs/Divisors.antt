-- The greatest divisor of two numbers is what a search downward finds.
use Rattle.std.proofs.Common.{◌≡◌, ℕ, zero, suc, ◌%◌, ◌≤◌, ◌<◌, arith, inl, inr}
use Rattle.std.specs.Int.{IsGcd, ◌∣◌}
use Rattle.std.proofs.lemmas.Bool.{cases_lt}
use Rattle.std.proofs.lemmas.Bool.Decides.{eqb_tells}
use Rattle.std.proofs.lemmas.Nat.Gcd.{dvd_of_mod-eq-zero, mod-eq-zero_of_dvd, le_of_dvd, le_from_IsGcd}
use Rattle.cbs_rate.proofs.Multiples.{some_from_dvd}
use Rattle.cbsrun_check_text.specs.Fractions.{divisor_up_to, greatest_divisor}

-- a divisor is below a number that does not divide
below : (x g n : ℕ) → ¬ (x % suc n ≡ 0) → g ∣ x → g ≤ suc n → g ≤ n
below x g n none d le = elim (cases_lt g (suc n)) [
  | inl lt ↦ omega arith
  | inr ge ↦
      let e : g ≡ suc n = omega arith in
      absurd (none (mod-eq-zero_of_dvd (suc n) (rw e at d)))
]

-- the search from a number that is not below it finds it
found : (a b g : ℕ) → 0 < g → IsGcd a b g → (n : ℕ) → g ≤ n → divisor_up_to a b n ≡ g
found a b g some gcd zero le = absurd (omega arith)
found a b g some gcd (suc n) le = elim (eqb_tells (a % suc n) 0) [
  | inl h ↦ elim (eqb_tells (b % suc n) 0) [
    | inl k ↦
        let most = le_from_IsGcd a b g (suc n) gcd some (dvd_of_mod-eq-zero (suc n) h.1) (dvd_of_mod-eq-zero (suc n) k.1) in
        rw (h.0, k.0, divisor_up_to) (omega arith)
    | inr k ↦ rw (h.0, k.0, divisor_up_to) (found a b g some gcd n (below b g n k.1 gcd.1 le))
  ]
  | inr h ↦ rw (h.0, divisor_up_to) (found a b g some gcd n (below a g n h.1 gcd.0 le))
]

pub divisor_is : (a b g : ℕ) → 0 < b → IsGcd a b g → greatest_divisor a b ≡ g
unfolding greatest_divisor
divisor_is a b g some gcd = found a b g (some_from_dvd g b gcd.1 some) gcd b (le_of_dvd some gcd.1)
