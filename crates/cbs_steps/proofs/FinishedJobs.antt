-- How many jobs are finished, as units and jobs are added.
use Rattle.std.proofs.Common.{◌≡◌, ℕ, zero, suc, ◌+◌, ◌≤◌, ◌<◌, Bool, true, false, List, [], ◌∷◌, length, take, arith, leb, inl, inr, subst}
use Rattle.std.proofs.lemmas.Bool.Decides.{nat_tests}
use Rattle.std.proofs.lemmas.List.Sums.{sum_by-cons}
use Rattle.std.proofs.lemmas.Bool.{cases_lt}
use Rattle.std.specs.List.{sum_by}
use Rattle.cbs_steps.specs.Searches.{greatest}

-- the greatest number that passes
pub greatest-le : (p : ℕ → Bool) (n : ℕ) → greatest p n ≤ n
greatest-le p zero = omega arith
greatest-le p (suc n) = let h = greatest-le p n in grind arith

-- it passes, if 0 does
pub greatest_passes : (p : ℕ → Bool) (n : ℕ) → p 0 ≡ true → p (greatest p n) ≡ true
greatest_passes p zero h = h
greatest_passes p (suc n) h = let i = greatest_passes p n h in grind arith

-- none above it passes
pub greatest_above : (p : ℕ → Bool) (n k : ℕ) → greatest p n < k → k ≤ n → p k ≡ false
greatest_above p zero k h i = absurd (omega arith)
greatest_above p (suc n) k h i = let j = greatest_above p n k in grind arith

-- a number that passes, with none above it, is the greatest
pub greatest-is : (p : ℕ → Bool) (n k : ℕ) → k ≤ n → p k ≡ true → ((j : ℕ) → k < j → j ≤ n → p j ≡ false) → greatest p n ≡ k
greatest-is p zero k h i above = omega arith
greatest-is p (suc n) k h i above =
    elim (cases_lt n k) [
      | inl lt ↦ let e : k ≡ suc n = omega arith in let f : p (suc n) ≡ true = subst (λ j. p j ≡ true) e i in grind arith
      | inr le ↦
          let lt : k < suc n = omega arith in
          let last = above (suc n) lt (omega arith) in
          let rest = greatest-is p n k le i (λ j a b. above j a (omega arith)) in
          grind arith
    ]

-- the sum of the first few
pub need-mono : {W : Type 0} (f : W → ℕ) (xs : List W) (i j : ℕ) → i ≤ j → sum_by f (take i xs) ≤ sum_by f (take j xs)
need-mono f xs zero j h = omega arith
need-mono f [] (suc i) j h = omega arith
need-mono f (x ∷ xs) (suc i) zero h = absurd (omega arith)
need-mono f (x ∷ xs) (suc i) (suc j) h = omega (arith, sum_by-cons f x (take i xs), sum_by-cons f x (take j xs), need-mono f xs i j (omega arith))

-- how many of the jobs xs are finished by g units
abbrev pub count_done : {W : Type 0} → (W → ℕ) → List W → ℕ → ℕ
count_done f xs g = greatest (λ k. leb (sum_by f (take k xs)) g) (length xs)

-- no more jobs are finished than there are
pub count_done-le : {W : Type 0} (f : W → ℕ) (xs : List W) (g : ℕ) → count_done f xs g ≤ length xs
count_done-le f xs g = greatest-le (λ k. leb (sum_by f (take k xs)) g) (length xs)

-- the units suffice for the finished jobs
pub count_done_within : {W : Type 0} (f : W → ℕ) (xs : List W) (g : ℕ) → sum_by f (take (count_done f xs g) xs) ≤ g
count_done_within f xs g =
    let h : leb (sum_by f (take (count_done f xs g) xs)) g ≡ true =
    greatest_passes (λ k. leb (sum_by f (take k xs)) g) (length xs) (grind (arith, nat_tests)) in
    grind (arith, nat_tests)

-- and not for one more
pub count_done_beyond : {W : Type 0} (f : W → ℕ) (xs : List W) (g : ℕ) → count_done f xs g < length xs → g < sum_by f (take (count_done f xs g + 1) xs)
count_done_beyond f xs g h =
    let e : leb (sum_by f (take (count_done f xs g + 1) xs)) g ≡ false =
    greatest_above (λ k. leb (sum_by f (take k xs)) g) (length xs) (count_done f xs g + 1) (omega arith) (omega arith) in
    grind (arith, nat_tests)

-- as many jobs are finished as the units suffice for, if not for one more
pub count_done-is : {W : Type 0} (f : W → ℕ) (xs : List W) (g k : ℕ) → k ≤ length xs → sum_by f (take k xs) ≤ g
    → (k < length xs → g < sum_by f (take (k + 1) xs)) → count_done f xs g ≡ k
count_done-is f xs g k h within beyond =
    greatest-is (λ k. leb (sum_by f (take k xs)) g) (length xs) k h (grind (arith, nat_tests))
    (λ j a b.
    let more = need-mono f xs (k + 1) j (omega arith) in
    let over = beyond (omega arith) in
    let t : g < sum_by f (take j xs) = omega arith in
    grind (arith, nat_tests))
