-- The power of a number: each number has one, and only one.
use Rattle.std.proofs.Common.{ℕ, zero, suc, true, false, ◌≡◌, ◌≢◌, ◌+◌, ◌-◌, ◌^◌, ◌≤◌, ◌<◌, arith, refl, subst, inl, inr, leb, ltb}
use Rattle.std.proofs.lemmas.Bool.{cases_lt, cases_Bool, cases_order, leb-true, ltb-true, le-leb, lt-ltb, and_from, and_parts}
use Rattle.std.proofs.lemmas.Nat.{leading_top}
use Rattle.std.specs.Int.Count.{count_leading_zeros, leading_of_zero}
use Rattle.std.proofs.Math.Nat.{pow-le-pow_right}
use Rattle.cbs_live.specs.Spreads.{start_of, is_of_power}

of_power : (k x : ℕ) → start_of k ≤ x → x < 2 ^ k → is_of_power k x ≡ true
of_power k x from to = and_from (leb (start_of k) x) (ltb x (2 ^ k)) (le-leb (start_of k) x from) (lt-ltb x (2 ^ k) to)

starts : (k x : ℕ) → is_of_power k x ≡ true → start_of k ≤ x
starts k x h = leb-true (start_of k) x (and_parts (leb (start_of k) x) (ltb x (2 ^ k)) h).0

ends : (k x : ℕ) → is_of_power k x ≡ true → x < 2 ^ k
ends k x h = ltb-true x (2 ^ k) (and_parts (leb (start_of k) x) (ltb x (2 ^ k)) h).1

-- a number that has bits is of the power that they number
bits_power : (x n : ℕ) → (j : ℕ) × (n + suc j ≡ 64) × (2 ^ j ≤ x) × (x < 2 ^ suc j) → is_of_power (64 - n) x ≡ true
bits_power x n (j, e, from, to) = let k : suc j ≡ 64 - n = omega arith in subst (λ (p : ℕ). is_of_power p x ≡ true) k (of_power (suc j) x from to)

-- the bits of a number are its power
pub power_found : (x : ℕ) → x < 2 ^ 64 → is_of_power (64 - count_leading_zeros 64 x) x ≡ true
power_found x h = elim (cases_lt 0 x) [
  | inl some ↦ bits_power x (count_leading_zeros 64 x) (leading_top 64 x some h)
  | inr none ↦ let e : x ≡ 0 = omega arith in rw (e, leading_of_zero 64) refl
]

before_start : (k p : ℕ) → k < p → 2 ^ k ≤ start_of p
before_start k zero h = absurd (omega arith)
before_start k (suc p) h = let two : 0 < 2 = omega arith in let le : k ≤ p = omega arith in pow-le-pow_right two le

-- a number has no second power
pub other_power : (k p x : ℕ) → is_of_power p x ≡ true → k ≢ p → is_of_power k x ≡ false
other_power k p x h ne = elim (cases_Bool (is_of_power k x)) [
  | inr not_also ↦ not_also
  | inl also ↦ elim (cases_order k p) [
    | inl same ↦ absurd (ne same)
    | inr (inl before) ↦ absurd (omega (arith, before_start k p before, ends k x also, starts p x h))
    | inr (inr after) ↦ absurd (omega (arith, before_start p k after, ends p x h, starts k x also))
  ]
]
