-- Lists of which one element is changed, and how many of them some units suffice for.
use Rattle.std.proofs.Common.{◌≡◌, ◌≢◌, ℕ, zero, suc, ◌+◌, ◌≤◌, ◌<◌, List, [], ◌∷◌, ◌++◌, length, take, drop, map, get_or, refl, ap, arith, inl, inr, sym}
use Rattle.std.specs.List.{sum_by, slice_get}
use Rattle.std.proofs.lemmas.List.{take-append-le}
use Rattle.std.proofs.lemmas.Bool.{cases_lt}
use Rattle.std.proofs.lemmas.List.Sums.{sum_by-cons}
use Rattle.cbs_lists.specs.Lists.{changed_at}
use Rattle.cbs_lists.proofs.Lists.{length-changed_at}
use Rattle.cbs_steps.proofs.FinishedJobs.{count_done, count_done_within, count_done_beyond, count_done-is, need-mono}

module _ {X : Type 0} where
  -- a change past the end
  pub changed_past : (f : X → X) (xs : List X) (i : ℕ) → length xs ≤ i → changed_at f xs i ≡ xs
  changed_past f [] i h = refl
  changed_past f (x ∷ xs) zero h = absurd (omega arith)
  changed_past f (x ∷ xs) (suc i) h = ap (λ ys. x ∷ ys) (changed_past f xs i (omega arith))

  -- the elements before the change
  pub take-changed : (f : X → X) (xs : List X) (i j : ℕ) → j ≤ i → take j (changed_at f xs i) ≡ take j xs
  take-changed f xs i zero h = refl
  take-changed f [] i (suc j) h = refl
  take-changed f (x ∷ xs) zero (suc j) h = absurd (omega arith)
  take-changed f (x ∷ xs) (suc i) (suc j) h = ap (λ ys. x ∷ ys) (take-changed f xs i j (omega arith))

  -- and those after it
  pub drop-changed : (f : X → X) (xs : List X) (i j : ℕ) → i < j → drop j (changed_at f xs i) ≡ drop j xs
  drop-changed f xs i zero h = absurd (omega arith)
  drop-changed f [] i (suc j) h = refl
  drop-changed f (x ∷ xs) zero (suc j) h = refl
  drop-changed f (x ∷ xs) (suc i) (suc j) h = drop-changed f xs i j (omega arith)

  -- one element more, which is not the changed one
  pub changed_behind : (f : X → X) (xs : List X) (y : X) (i : ℕ) → length xs ≢ i → changed_at f (xs ++ y ∷ []) i ≡ changed_at f xs i ++ y ∷ []
  changed_behind f [] y zero ne = absurd (ne refl)
  changed_behind f [] y (suc i) ne = refl
  changed_behind f (x ∷ xs) y zero ne = refl
  changed_behind f (x ∷ xs) y (suc i) ne = ap (λ ys. x ∷ ys) (changed_behind f xs y i (λ e. ne (ap suc e)))

  -- or which is
  pub changed_last : (f : X → X) (xs : List X) (y : X) (i : ℕ) → length xs ≡ i → changed_at f (xs ++ y ∷ []) i ≡ xs ++ f y ∷ []
  changed_last f [] y zero e = refl
  changed_last f [] y (suc i) e = absurd (omega arith)
  changed_last f (x ∷ xs) y zero e = absurd (omega arith)
  changed_last f (x ∷ xs) y (suc i) e = ap (λ ys. x ∷ ys) (changed_last f xs y i (omega arith))

  -- two changes at two places
  pub changed_apart : (f g : X → X) (xs : List X) (i j : ℕ) → i ≢ j → changed_at f (changed_at g xs j) i ≡ changed_at g (changed_at f xs i) j
  changed_apart f g [] i j ne = refl
  changed_apart f g (x ∷ xs) zero zero ne = absurd (ne refl)
  changed_apart f g (x ∷ xs) zero (suc j) ne = refl
  changed_apart f g (x ∷ xs) (suc i) zero ne = refl
  changed_apart f g (x ∷ xs) (suc i) (suc j) ne = ap (λ ys. x ∷ ys) (changed_apart f g xs i j (λ e. ne (ap suc e)))

  -- two changes at one place, which come to two others
  pub changed_twice : (f g h k : X → X) (xs : List X) (i : ℕ) (d : X) → f (g (get_or xs i d)) ≡ h (k (get_or xs i d))
      → changed_at f (changed_at g xs i) i ≡ changed_at h (changed_at k xs i) i
  changed_twice f g h k [] i d e = refl
  changed_twice f g h k (x ∷ xs) zero d e = ap (λ y. y ∷ xs) e
  changed_twice f g h k (x ∷ xs) (suc i) d e = ap (λ ys. x ∷ ys) (changed_twice f g h k xs i d e)

  -- a change of one element and a change of all, if they can be made in either order
  pub changed_map : (f g : X → X) (xs : List X) (i : ℕ) → ((x : X) → f (g x) ≡ g (f x)) → map f (changed_at g xs i) ≡ changed_at g (map f xs) i
  changed_map f g [] i e = refl
  changed_map f g (x ∷ xs) zero e = ap (λ y. y ∷ map f xs) (e x)
  changed_map f g (x ∷ xs) (suc i) e = ap (λ ys. f x ∷ ys) (changed_map f g xs i e)

  -- two changes that can be made in either order
  pub changed_commute : (f g : X → X) (xs : List X) (i j : ℕ) → ((x : X) → f (g x) ≡ g (f x)) → changed_at f (changed_at g xs j) i ≡ changed_at g (changed_at f xs i) j
  changed_commute f g [] i j e = refl
  changed_commute f g (x ∷ xs) zero zero e = ap (λ y. y ∷ xs) (e x)
  changed_commute f g (x ∷ xs) zero (suc j) e = refl
  changed_commute f g (x ∷ xs) (suc i) zero e = refl
  changed_commute f g (x ∷ xs) (suc i) (suc j) e = ap (λ ys. x ∷ ys) (changed_commute f g xs i j e)

  -- a change that changes nothing
  pub changed_none : (f : X → X) (xs : List X) (i : ℕ) (d : X) → f (get_or xs i d) ≡ get_or xs i d → changed_at f xs i ≡ xs
  changed_none f [] i d e = refl
  changed_none f (x ∷ xs) zero d e = ap (λ y. y ∷ xs) e
  changed_none f (x ∷ xs) (suc i) d e = ap (λ ys. x ∷ ys) (changed_none f xs i d e)

  -- a change that is not seen
  pub map_unchanged : {Y : Type 0} (h : X → Y) (f : X → X) (xs : List X) (i : ℕ) (d : X) → h (f (get_or xs i d)) ≡ h (get_or xs i d)
      → map h (changed_at f xs i) ≡ map h xs
  map_unchanged h f [] i d e = refl
  map_unchanged h f (x ∷ xs) zero d e = ap (λ y. y ∷ map h xs) e
  map_unchanged h f (x ∷ xs) (suc i) d e = ap (λ ys. h x ∷ ys) (map_unchanged h f xs i d e)

  -- a part of each element that a change keeps
  pub kept_at : {Y : Type 0} (h : X → Y) (f : X → X) (xs : List X) (i j : ℕ) (d : X) → ((x : X) → h (f x) ≡ h x)
      → h (get_or (changed_at f xs i) j d) ≡ h (get_or xs j d)
  kept_at h f [] i j d same = refl
  kept_at h f (x ∷ xs) zero zero d same = same x
  kept_at h f (x ∷ xs) zero (suc j) d same = refl
  kept_at h f (x ∷ xs) (suc i) zero d same = refl
  kept_at h f (x ∷ xs) (suc i) (suc j) d same = kept_at h f xs i j d same

  -- the element at the place of a change that leaves what stands for no element
  pub changed_get : (f : X → X) (xs : List X) (i : ℕ) (d : X) → f d ≡ d → get_or (changed_at f xs i) i d ≡ f (get_or xs i d)
  changed_get f [] i d e = sym e
  changed_get f (x ∷ xs) zero d e = refl
  changed_get f (x ∷ xs) (suc i) d e = changed_get f xs i d e

  -- a number of the changed element, and of each other one
  pub seen_here : (h : X → ℕ) (f : X → X) (xs : List X) (i : ℕ) → get_or (map h (changed_at f xs i)) i 0 ≡ get_or (map (λ x. h (f x)) xs) i 0
  seen_here h f [] i = refl
  seen_here h f (x ∷ xs) zero = refl
  seen_here h f (x ∷ xs) (suc i) = seen_here h f xs i

  pub seen_elsewhere : (h : X → ℕ) (f : X → X) (xs : List X) (i j : ℕ) → j ≢ i → get_or (map h (changed_at f xs i)) j 0 ≡ get_or (map h xs) j 0
  seen_elsewhere h f [] i j ne = refl
  seen_elsewhere h f (x ∷ xs) zero zero ne = absurd (ne refl)
  seen_elsewhere h f (x ∷ xs) zero (suc j) ne = refl
  seen_elsewhere h f (x ∷ xs) (suc i) zero ne = refl
  seen_elsewhere h f (x ∷ xs) (suc i) (suc j) ne = seen_elsewhere h f xs i j (λ e. ne (ap suc e))

  -- what is found of each other element
  pub found_elsewhere : {Y : Type 0} (h : X → Y) (f : X → X) (xs : List X) (i j : ℕ) → j ≢ i → slice_get (map h (changed_at f xs i)) j ≡ slice_get (map h xs) j
  found_elsewhere h f [] i j ne = refl
  found_elsewhere h f (x ∷ xs) zero zero ne = absurd (ne refl)
  found_elsewhere h f (x ∷ xs) zero (suc j) ne = refl
  found_elsewhere h f (x ∷ xs) (suc i) zero ne = refl
  found_elsewhere h f (x ∷ xs) (suc i) (suc j) ne = found_elsewhere h f xs i j (λ e. ne (ap suc e))

  -- the element at place k needs n units at least, and g units are fewer than the elements before it need, and n
  pub record IsShort (f : X → ℕ) (n : ℕ) (xs : List X) (g k : ℕ) : Type 0 where
    pub short : g < sum_by f (take k xs) + n
    pub enough : sum_by f (take k xs) + n ≤ sum_by f (take (k + 1) xs)

  -- the same of fewer units, and of the first elements
  pub short_before : (f : X → ℕ) (n : ℕ) (xs more : List X) (g later k : ℕ) → k < length xs → g ≤ later → IsShort f n (xs ++ more) later k → IsShort f n xs g k
  short_before f n xs more g later k lt le is =
      let first : take k (xs ++ more) ≡ take k xs = take-append-le k xs more (omega arith) in
      let next : take (k + 1) (xs ++ more) ≡ take (k + 1) xs = take-append-le (k + 1) xs more (omega arith) in
      let s = rw first at is.short in
      let e = rw (first, next) at is.enough in
      record { short = omega arith; enough = e }

  -- as many elements are done as the units suffice for
  pub done-ge : (f : X → ℕ) (xs : List X) (g j : ℕ) → j ≤ length xs → sum_by f (take j xs) ≤ g → j ≤ count_done f xs g
  done-ge f xs g j within enough = elim (cases_lt (count_done f xs g) j) [
    | inr ge ↦ ge
    | inl lt ↦ let b = count_done_beyond f xs g (omega arith) in let m = need-mono f xs (count_done f xs g + 1) j (omega arith) in absurd (omega arith)
  ]

  module _ (f : X → ℕ) (cut : X → X) (n : ℕ) (law : (x : X) → n ≤ f x → f (cut x) ≡ n) where
    -- all that is needed, if an element is cut to n units
    sum_cut-le : (xs : List X) (k : ℕ) → (k < length xs → sum_by f (take k xs) + n ≤ sum_by f (take (suc k) xs)) → sum_by f (changed_at cut xs k) ≤ sum_by f xs
    sum_cut-le [] k h = omega arith
    sum_cut-le (x ∷ xs) zero h =
        let few : n ≤ f x = omega (arith, sum_by-cons f x [], h (omega arith)) in
        omega (arith, sum_by-cons f x xs, sum_by-cons f (cut x) xs, law x few)
    sum_cut-le (x ∷ xs) (suc k) h =
        let rest = sum_cut-le xs k (λ lt. omega (arith, sum_by-cons f x (take k xs), sum_by-cons f x (take (suc k) xs), h (omega arith))) in
        omega (arith, sum_by-cons f x xs, sum_by-cons f x (changed_at cut xs k), rest)

    pub sum_shorter : (xs : List X) (k : ℕ) → (k < length xs → sum_by f (take k xs) + n ≤ sum_by f (take (k + 1) xs)) → sum_by f (changed_at cut xs k) ≤ sum_by f xs
    sum_shorter xs k h = let e : k + 1 ≡ suc k = omega arith in sum_cut-le xs k (λ lt. rw e at (h lt))

    -- what is needed up to an element that is cut to n units
    sum_cut : (xs : List X) (k : ℕ) → k < length xs → sum_by f (take k xs) + n ≤ sum_by f (take (suc k) xs)
        → sum_by f (take (suc k) (changed_at cut xs k)) ≡ sum_by f (take k xs) + n
    sum_cut [] k lt h = absurd (omega arith)
    sum_cut (x ∷ xs) zero lt h =
        let few : n ≤ f x = omega (arith, sum_by-cons f x []) in
        omega (arith, sum_by-cons f (cut x) [], law x few)
    sum_cut (x ∷ xs) (suc k) lt h =
        let more : sum_by f (take k xs) + n ≤ sum_by f (take (suc k) xs) = omega (arith, sum_by-cons f x (take k xs), sum_by-cons f x (take (suc k) xs)) in
        omega (arith, sum_by-cons f x (take k xs), sum_by-cons f x (take (suc k) (changed_at cut xs k)), sum_cut xs k (omega arith) more)

    pub need_cut : (xs : List X) (k : ℕ) → k < length xs → sum_by f (take k xs) + n ≤ sum_by f (take (k + 1) xs)
        → sum_by f (take (k + 1) (changed_at cut xs k)) ≡ sum_by f (take k xs) + n
    need_cut xs k lt h = let e : k + 1 ≡ suc k = omega arith in rw e (sum_cut xs k lt (rw e at h))

    module _ (xs : List X) (g k : ℕ) where
      -- no more elements than k are done
      pub short-le : k < length xs → IsShort f n xs g k → count_done f xs g ≤ k
      short-le lt is = elim (cases_lt k (count_done f xs g)) [
        | inr le ↦ le
        | inl more ↦ let m = need-mono f xs (k + 1) (count_done f xs g) (omega arith) in let w = count_done_within f xs g in let s = is.short in let e = is.enough in absurd (omega arith)
      ]

      -- what is needed up to one element more than those that are done
      pub need_next : k < length xs → IsShort f n xs g k → g < sum_by f (take (count_done f xs g + 1) (changed_at cut xs k))
      need_next lt is =
          let le = short-le lt is in
          elim (cases_lt (count_done f xs g) k) [
            | inl before ↦ rw (take-changed cut xs k (count_done f xs g + 1) (omega arith)) (count_done_beyond f xs g (omega arith))
            | inr here ↦ let same : count_done f xs g ≡ k = omega arith in rw same (let e = need_cut xs k lt is.enough in let s = is.short in omega arith)
          ]

      -- as many are done as before the cut
      pub count_cut : (k < length xs → IsShort f n xs g k) → count_done f (changed_at cut xs k) g ≡ count_done f xs g
      count_cut is = elim (cases_lt k (length xs)) [
        | inr past ↦ rw (changed_past cut xs k past) refl
        | inl lt ↦
            let le = short-le lt (is lt) in
            let d = count_done f xs g in
            count_done-is f (changed_at cut xs k) g d (omega (arith, length-changed_at cut xs k))
            (rw (take-changed cut xs k d le) (count_done_within f xs g))
            (λ _. need_next lt (is lt))
      ]
