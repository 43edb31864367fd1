-- One more number in a summary.
use Rattle.std.proofs.Common.{ℕ, Bool, true, false, cond, ◌≡◌, ◌+◌, ◌<◌, List, [], ◌∷◌, length, sum, min, slice_index, slice_set, arith, sym, subst, inl, inr, count_by, get_or-set_same, get_or-set_other}
use Rattle.std.proofs.lemmas.Bool.{cases_eq}
use Rattle.std.proofs.lemmas.List.Sums.{sum_by-cons}
use Rattle.cbs_live.specs.Spreads.{most, is_of_power, least_of}
use Rattle.cbs_live.proofs.Powers.{other_power}

pub sum_cons : (x : ℕ) (xs : List ℕ) → sum (x ∷ xs) ≡ x + sum xs
sum_cons x xs = sum_by-cons (λ y. y) x xs

-- the sum of some numbers and one more, if it stops
pub total_more : (xs : List ℕ) (x total total' : ℕ) → total ≡ min (sum xs) most → total' ≡ min (total + x) most → total' ≡ min (sum (x ∷ xs)) most
total_more xs x total total' is more = rw (sum_cons x xs) (omega arith)

-- the least of some numbers and one more, if their count stops
pub least_more : (xs : List ℕ) (x count least least' : ℕ) → count ≡ min (length xs) most → least ≡ least_of xs → (count ≡ 0 → least' ≡ x) → (0 < count → least' ≡ min least x)
    → least' ≡ least_of (x ∷ xs)
least_more [] x count least least' counted is first later = let none : count ≡ 0 = omega arith in first none
least_more (y ∷ ys) x count least least' counted is first later = let some : 0 < count = omega arith in omega (arith, later some)

chosen_in : (b : Bool) (a n : ℕ) → n ≡ cond b 1 0 + a → b ≡ true → n ≡ 1 + a
chosen_in true a n e h = e
chosen_in false a n e h = absurd (cc)

chosen_out : (b : Bool) (a n : ℕ) → n ≡ cond b 1 0 + a → b ≡ false → n ≡ a
chosen_out true a n e h = absurd (cc)
chosen_out false a n e h = omega arith

pub counted_in : (p : ℕ → Bool) (x : ℕ) (xs : List ℕ) → p x ≡ true → count_by p (x ∷ xs) ≡ 1 + count_by p xs
counted_in p x xs h = chosen_in (p x) (count_by p xs) (count_by p (x ∷ xs)) (sum_by-cons (λ y. cond (p y) 1 0) x xs) h

pub counted_out : (p : ℕ → Bool) (x : ℕ) (xs : List ℕ) → p x ≡ false → count_by p (x ∷ xs) ≡ count_by p xs
counted_out p x xs h = chosen_out (p x) (count_by p xs) (count_by p (x ∷ xs)) (sum_by-cons (λ y. cond (p y) 1 0) x xs) h

-- a count that stops, and one more
stopped_more : (n a b : ℕ) → a ≡ min n most → b ≡ min (a + 1) most → b ≡ min (1 + n) most
stopped_more n a b e h = omega arith

-- the powers of some numbers and one more, which is of power p
pub powers_more : (powers xs : List ℕ) (x p more : ℕ) → length powers ≡ 65 → p < 65 → is_of_power p x ≡ true → more ≡ min (slice_index powers p + 1) most
    → ((k : ℕ) → k < 65 → slice_index powers k ≡ min (count_by (is_of_power k) xs) most)
    → (k : ℕ) → k < 65 → slice_index (slice_set powers p more) k ≡ min (count_by (is_of_power k) (x ∷ xs)) most
powers_more powers xs x p more len within of is before k small = elim (cases_eq k p) [
  | inl same ↦
      let fits : p < length powers = omega arith in
      let put = get_or-set_same powers p more 0 fits in
      let counts = stopped_more (count_by (is_of_power p) xs) (slice_index powers p) more (before p within) is in
      let here : slice_index (slice_set powers p more) p ≡ min (count_by (is_of_power p) (x ∷ xs)) most = rw (put, counted_in (is_of_power p) x xs of) counts in
      subst (λ (q : ℕ). slice_index (slice_set powers p more) q ≡ min (count_by (is_of_power q) (x ∷ xs)) most) (sym same) here
  | inr other ↦ rw (get_or-set_other powers p k more 0 other, counted_out (is_of_power k) x xs (other_power k p x of other)) (before k small)
]
