-- The numbers that are drawn from a range lie in it.
use Rattle.std.proofs.Common.{ℕ, ◌+◌, ◌-◌, ◌*◌, ◌/◌, ◌%◌, ◌^◌, ◌≤◌, ◌<◌, ltb, arith, inl, inr, bit_xor}
use Rattle.std.proofs.Math.Nat.{div-lt_iff_lt-mul, div-le_self}
use Rattle.std.proofs.lemmas.Bool.{cases_Bool}
use Rattle.std.proofs.lemmas.Nat.{or_lt, xor_lt, mul-le}
use Rattle.rand_pcg.specs.Lcg.{Lcg, next}
use Rattle.rand_pcg.specs.Pcg.{pcg64, multiplier_128, output_xsl_rr}
use Rattle.cbsrun_simulate.specs.Bounds.{Bounds}
use Rattle.cbsrun_simulate.specs.Drawing.{drawn}

-- a word that is made of 128 bits has 64
word_of : (s : ℕ) → s < 2 ^ 128 → output_xsl_rr s < 2 ^ 64
word_of s small =
    let n = bit_xor (s / 2 ^ 64) (s % 2 ^ 64) in
    let by = s / 2 ^ 122 in
    let high : s / 2 ^ 64 < 2 ^ 64 = omega arith in
    let low : s % 2 ^ 64 < 2 ^ 64 = omega arith in
    let mixed : n < 2 ^ 64 = xor_lt 64 (s / 2 ^ 64) (s % 2 ^ 64) high low in
    let right : n / 2 ^ (by % 64) ≤ n = div-le_self n (2 ^ (by % 64)) in
    let left : (n * 2 ^ ((64 - by % 64) % 64)) % 2 ^ 64 < 2 ^ 64 = omega arith in
    or_lt 64 (n / 2 ^ (by % 64)) ((n * 2 ^ ((64 - by % 64) % 64)) % 2 ^ 64) (omega arith) left

-- a word of the generator has 64 bits
word_small : (g : Lcg) → (pcg64 g).0 < 2 ^ 64
word_small g = word_of (next 128 multiplier_128 g).state (omega arith)

-- a word of 64 bits, times a count, over 2^64, is less than the count
above_small : (word count : ℕ) → word < 2 ^ 64 → 0 < count → word * count / 2 ^ 64 < count
above_small word count small some =
    let less : (word + 1) * count ≤ 2 ^ 64 * count = mul-le (word + 1) count (2 ^ 64) count (omega arith) (omega arith) in
    let below : word * count < count * 2 ^ 64 = omega (arith, less) in
    (div-lt_iff_lt-mul {k = 2 ^ 64} {x = word * count} {y = count} (omega arith)).1 below

-- no number of a range is less than the least
pub drawn_least : (r : Bounds) (g : Lcg) → r.least ≤ (drawn r g).0
drawn_least r g = elim (cases_Bool (ltb r.least r.greatest)) [ inl t ↦ rw t (omega arith) | inr f ↦ rw f (omega arith) ]

-- no number of a range is less than the least or greater than the greatest
pub drawn_within : (r : Bounds) (g : Lcg) → r.least ≤ r.greatest → (r.least ≤ (drawn r g).0) × ((drawn r g).0 ≤ r.greatest)
drawn_within r g order = elim (cases_Bool (ltb r.least r.greatest)) [
  | inl t ↦ let above = above_small (pcg64 g).0 (r.greatest - r.least + 1) (word_small g) (omega arith) in rw t (omega arith, omega arith)
  | inr f ↦ rw f (omega arith, order)
]
