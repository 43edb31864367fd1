-- How many numbers are below a power, by the counts of the powers.
use Rattle.std.proofs.Common.{ℕ, zero, suc, ◌≡◌, ◌+◌, ◌-◌, ◌*◌, ◌^◌, ◌≤◌, ◌<◌, List, [], ◌∷◌, length, sum, take, min, slice_index, arith, refl, inl, inr, count_by, leb, ltb, add-one}
use Rattle.std.proofs.lemmas.Bool.{cases_lt, le-leb, lt-leb, lt-ltb, le-ltb, and_from, and_left, and_right}
use Rattle.std.proofs.lemmas.List.Sums.{sum_by_more, count_by-le-length}
use Rattle.std.proofs.lemmas.Nat.{pow_pos}
use Rattle.std.proofs.Math.Nat.{pow-le-pow_right, mul-le-mul_right}
use Rattle.cbs_live.specs.Spreads.{most, is_of_power, start_of, greatest_of, IsSpreadOf, IsCounted, AreAtMost}
use Rattle.cbs_live.specs.declared.spread.Spread.{Spread}
use Rattle.cbs_live.proofs.Added.{counted_in, counted_out}

below_in : (bound x : ℕ) (xs : List ℕ) → x < bound → count_by (λ y. ltb y bound) (x ∷ xs) ≡ 1 + count_by (λ y. ltb y bound) xs
below_in bound x xs h = counted_in (λ y. ltb y bound) x xs (lt-ltb x bound h)

below_out : (bound x : ℕ) (xs : List ℕ) → bound ≤ x → count_by (λ y. ltb y bound) (x ∷ xs) ≡ count_by (λ y. ltb y bound) xs
below_out bound x xs h = counted_out (λ y. ltb y bound) x xs (le-ltb x bound h)

within_in : (bound x : ℕ) (xs : List ℕ) → x ≤ bound → count_by (λ y. leb y bound) (x ∷ xs) ≡ 1 + count_by (λ y. leb y bound) xs
within_in bound x xs h = counted_in (λ y. leb y bound) x xs (le-leb x bound h)

within_out : (bound x : ℕ) (xs : List ℕ) → bound < x → count_by (λ y. leb y bound) (x ∷ xs) ≡ count_by (λ y. leb y bound) xs
within_out bound x xs h = counted_out (λ y. leb y bound) x xs (lt-leb x bound h)

power_in : (k x : ℕ) (xs : List ℕ) → start_of k ≤ x → x < 2 ^ k → count_by (is_of_power k) (x ∷ xs) ≡ 1 + count_by (is_of_power k) xs
power_in k x xs from to = counted_in (is_of_power k) x xs (and_from (leb (start_of k) x) (ltb x (2 ^ k)) (le-leb (start_of k) x from) (lt-ltb x (2 ^ k) to))

power_before : (k x : ℕ) (xs : List ℕ) → x < start_of k → count_by (is_of_power k) (x ∷ xs) ≡ count_by (is_of_power k) xs
power_before k x xs h = counted_out (is_of_power k) x xs (and_left (leb (start_of k) x) (ltb x (2 ^ k)) (lt-leb (start_of k) x h))

power_after : (k x : ℕ) (xs : List ℕ) → 2 ^ k ≤ x → count_by (is_of_power k) (x ∷ xs) ≡ count_by (is_of_power k) xs
power_after k x xs h = counted_out (is_of_power k) x xs (and_right (leb (start_of k) x) (ltb x (2 ^ k)) (le-ltb x (2 ^ k) h))

-- whoever is below a power is below the one before it, or of it
below_more : (k : ℕ) (xs : List ℕ) → count_by (λ x. ltb x (2 ^ suc k)) xs ≡ count_by (λ x. ltb x (2 ^ k)) xs + count_by (is_of_power (suc k)) xs
below_more k [] = refl
below_more k (x ∷ xs) =
    let two : 0 < 2 = omega arith in
    let up : k ≤ suc k = omega arith in
    let grows : 2 ^ k ≤ 2 ^ suc k = pow-le-pow_right two up in
    elim (cases_lt x (2 ^ k)) [
      | inl low ↦ let lower : x < 2 ^ suc k = omega arith in omega (arith, below_more k xs, below_in (2 ^ suc k) x xs lower, below_in (2 ^ k) x xs low, power_before (suc k) x xs low)
      | inr high ↦ elim (cases_lt x (2 ^ suc k)) [
        | inl here ↦ omega (arith, below_more k xs, below_in (2 ^ suc k) x xs here, below_out (2 ^ k) x xs high, power_in (suc k) x xs high here)
        | inr higher ↦ omega (arith, below_more k xs, below_out (2 ^ suc k) x xs higher, below_out (2 ^ k) x xs high, power_after (suc k) x xs higher)
      ]
    ]

below_first : (xs : List ℕ) → count_by (λ x. ltb x (2 ^ 0)) xs ≡ count_by (is_of_power 0) xs
below_first [] = refl
below_first (x ∷ xs) = elim (cases_lt x 1) [
  | inl none ↦ let start : 0 ≤ x = omega arith in omega (arith, below_first xs, below_in 1 x xs none, power_in 0 x xs start none)
  | inr some ↦ omega (arith, below_first xs, below_out 1 x xs some, power_after 0 x xs some)
]

pub sum_more : (xs : List ℕ) (i : ℕ) → i < length xs → sum (take (i + 1) xs) ≡ sum (take i xs) + slice_index xs i
sum_more xs i h = sum_by_more (λ x. x) xs i 0 h

-- the powers up to one count who is below it, if no count stops
pub counts_through : (powers xs : List ℕ) → length powers ≡ 65 → length xs ≤ most → ((k : ℕ) → k < 65 → slice_index powers k ≡ min (count_by (is_of_power k) xs) most)
    → (k : ℕ) → k < 65 → sum (take (k + 1) powers) ≡ count_by (λ x. ltb x (2 ^ k)) xs
counts_through powers xs len few counts zero small =
    let first : 0 < length powers = omega arith in
    omega (arith, sum_more powers 0 first, counts 0 small, below_first xs, count_by-le-length (is_of_power 0) xs)
counts_through powers xs len few counts (suc k) small =
    let before : k < 65 = omega arith in
    let there : suc k < length powers = omega arith in
    let so_far = rw add-one at (counts_through powers xs len few counts k before) in
    omega (arith, so_far, sum_more powers (suc k) there, counts (suc k) small, below_more k xs, count_by-le-length (is_of_power (suc k)) xs)

-- whoever is below a bound is at most the number before it, and at most the greatest of all
pub within_least : (xs : List ℕ) (greatest bound : ℕ) → greatest_of xs ≤ greatest → count_by (λ x. ltb x bound) xs ≤ count_by (λ x. leb x (min greatest (bound - 1))) xs
within_least [] greatest bound all = omega arith
within_least (x ∷ xs) greatest bound all =
    let rest : greatest_of xs ≤ greatest = omega arith in
    elim (cases_lt x bound) [
      | inl low ↦ let lower : x ≤ min greatest (bound - 1) = omega arith in
          omega (arith, within_least xs greatest bound rest, below_in bound x xs low, within_in (min greatest (bound - 1)) x xs lower)
      | inr high ↦ elim (cases_lt (min greatest (bound - 1)) x) [
        | inl out ↦ omega (arith, within_least xs greatest bound rest, below_out bound x xs high, within_out (min greatest (bound - 1)) x xs out)
        | inr into ↦ omega (arith, within_least xs greatest bound rest, below_out bound x xs high, within_in (min greatest (bound - 1)) x xs into)
      ]
    ]

-- none is more than the greatest
pub within_all : (xs : List ℕ) (greatest : ℕ) → greatest_of xs ≤ greatest → count_by (λ x. leb x greatest) xs ≡ length xs
within_all [] greatest all = refl
within_all (x ∷ xs) greatest all =
    let rest : greatest_of xs ≤ greatest = omega arith in
    let low : x ≤ greatest = omega arith in
    omega (arith, within_all xs greatest rest, within_in greatest x xs low)

-- to be at most the number before a bound is to be below it
pub within_below : (xs : List ℕ) (bound : ℕ) → 0 < bound → count_by (λ x. leb x (bound - 1)) xs ≡ count_by (λ x. ltb x bound) xs
within_below [] bound some = refl
within_below (x ∷ xs) bound some = elim (cases_lt x bound) [
  | inl low ↦ let lower : x ≤ bound - 1 = omega arith in omega (arith, within_below xs bound some, below_in bound x xs low, within_in (bound - 1) x xs lower)
  | inr high ↦ let higher : bound - 1 < x = omega arith in omega (arith, within_below xs bound some, below_out bound x xs high, within_out (bound - 1) x xs higher)
]

-- one power is found to count enough
pub enough : (s : Spread) (xs : List ℕ) (share k wanted : ℕ) → IsSpreadOf s xs → IsCounted xs → length s.powers ≡ 65 → k < 65 → wanted ≡ s.count * share
    → wanted ≤ 1000 * sum (take (k + 1) s.powers) → AreAtMost share (min s.greatest (2 ^ k - 1)) xs
enough s xs share k wanted is counted len small wants found =
    let few : s.count ≡ length xs = omega arith in
    let all : greatest_of xs ≤ s.greatest = omega arith in
    omega (arith, rw few at wants, counts_through s.powers xs len counted.few is.powers k small, within_least xs s.greatest (2 ^ k) all)

-- and a power that counts too few is no bound
pub too_few : (s : Spread) (xs : List ℕ) (share k wanted : ℕ) → IsSpreadOf s xs → IsCounted xs → length s.powers ≡ 65 → k < 65 → wanted ≡ s.count * share
    → 1000 * sum (take (k + 1) s.powers) < wanted → AreAtMost share (2 ^ k - 1) xs → ⊥
too_few s xs share k wanted is counted len small wants found enough =
    let few : s.count ≡ length xs = omega arith in
    omega (arith, rw few at wants, counts_through s.powers xs len counted.few is.powers k small, within_below xs (2 ^ k) (pow_pos k))

pub all : (s : Spread) (xs : List ℕ) (share : ℕ) → IsSpreadOf s xs → share ≤ 1000 → AreAtMost share s.greatest xs
all s xs share is part =
    let most_of_all : greatest_of xs ≤ s.greatest = omega arith in
    rw (within_all xs s.greatest most_of_all) (mul-le-mul_right (length xs) part)

-- a power that starts within a number is before one that ends after it
pub is_before : (k p x : ℕ) → 2 ^ k ≤ x → x ≤ 2 ^ p - 1 → k < p
is_before k p x from to = elim (cases_lt k p) [
  | inl before ↦ before
  | inr after ↦ let two : 0 < 2 = omega arith in absurd (omega (arith, pow_pos p, pow-le-pow_right two after))
]
