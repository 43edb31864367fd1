-- Sums over a list, place by place.
use Rattle.std.proofs.Common.{◌≡◌, ℕ, zero, suc, ◌+◌, ◌*◌, ◌≤◌, ◌<◌, List, [], ◌∷◌, length, map, get_or, refl, sym, ap, ◌∙◌, arith}
use Rattle.std.specs.List.{sum_by}
use Rattle.std.proofs.lemmas.List.Sums.{sum_by-cons}
use Rattle.cbs_lists.specs.Lists.{changed_at}

-- a sum over mapped elements
pub sum_map : {X Y : Type 0} (f : Y → ℕ) (h : X → Y) (xs : List X) → sum_by f (map h xs) ≡ sum_by (λ x. f (h x)) xs
sum_map f h [] = refl
sum_map f h (x ∷ xs) = omega (arith, sum_map f h xs, sum_by-cons f (h x) (map h xs), sum_by-cons (λ x. f (h x)) x xs)

-- two lists of the same measures have one sum
pub same_sum : {X : Type 0} (f : X → ℕ) (xs ys : List X) → map f xs ≡ map f ys → sum_by f xs ≡ sum_by f ys
same_sum f xs ys e = sym (sum_map (λ n. n) f xs) ∙ (ap (sum_by (λ n. n)) e ∙ sum_map (λ n. n) f ys)

-- a sum of multiples
pub sum_times : {X : Type 0} (f : X → ℕ) (k : ℕ) (xs : List X) → sum_by (λ x. k * f x) xs ≡ k * sum_by f xs
sum_times f k [] = omega arith
sum_times f k (x ∷ xs) = rw (sum_by-cons f x xs, sum_by-cons (λ x. k * f x) x xs, sum_times f k xs) (omega arith)

-- a sum of lesser numbers
pub sum-mono : {X : Type 0} (f g : X → ℕ) (xs : List X) (d : X) → ((i : ℕ) → i < length xs → f (get_or xs i d) ≤ g (get_or xs i d)) → sum_by f xs ≤ sum_by g xs
sum-mono f g [] d h = omega arith
sum-mono f g (x ∷ xs) d h =
    let here : f x ≤ g x = h 0 (omega arith) in
    let rest = sum-mono f g xs d (λ i lt. h (suc i) (omega arith)) in
    omega (arith, sum_by-cons f x xs, sum_by-cons g x xs)

-- a sum of lesser numbers, if a change of one gains something
pub sum_changed : {X : Type 0} (f g : X → ℕ) (h : X → X) (xs : List X) (s gain : ℕ) (d : X) → s < length xs
    → ((i : ℕ) → i < length xs → f (get_or xs i d) ≤ g (get_or xs i d))
    → f (h (get_or xs s d)) + gain ≤ g (get_or xs s d) → sum_by f (changed_at h xs s) + gain ≤ sum_by g xs
sum_changed f g h [] s gain d lt each here = absurd (omega arith)
sum_changed f g h (x ∷ xs) zero gain d lt each here =
    let rest = sum-mono f g xs d (λ i lt. each (suc i) (omega arith)) in
    omega (arith, sum_by-cons f (h x) xs, sum_by-cons g x xs)
sum_changed f g h (x ∷ xs) (suc s) gain d lt each here =
    let first : f x ≤ g x = each 0 (omega arith) in
    let rest = sum_changed f g h xs s gain d (omega arith) (λ i lt. each (suc i) (omega arith)) here in
    omega (arith, sum_by-cons f x (changed_at h xs s), sum_by-cons g x xs)

-- a sum of lesser numbers, if a change of one keeps it lesser
pub sum_changed-le : {X : Type 0} (f g : X → ℕ) (h : X → X) (xs : List X) (s : ℕ) (d : X) → ((i : ℕ) → i < length xs → f (get_or xs i d) ≤ g (get_or xs i d))
    → (s < length xs → f (h (get_or xs s d)) ≤ g (get_or xs s d)) → sum_by f (changed_at h xs s) ≤ sum_by g xs
sum_changed-le f g h [] s d each here = omega arith
sum_changed-le f g h (x ∷ xs) zero d each here =
    let rest = sum-mono f g xs d (λ i lt. each (suc i) (omega arith)) in
    let one : f (h x) ≤ g x = here (omega arith) in
    omega (arith, sum_by-cons f (h x) xs, sum_by-cons g x xs)
sum_changed-le f g h (x ∷ xs) (suc s) d each here =
    let first : f x ≤ g x = each 0 (omega arith) in
    let rest = sum_changed-le f g h xs s d (λ i lt. each (suc i) (omega arith)) (λ lt. here (omega arith)) in
    omega (arith, sum_by-cons f x (changed_at h xs s), sum_by-cons g x xs)

-- a change of one that leaves each number leaves the sum
pub sum_changed_same : {X : Type 0} (f : X → ℕ) (h : X → X) (xs : List X) (s : ℕ) → ((x : X) → f (h x) ≡ f x) → sum_by f (changed_at h xs s) ≡ sum_by f xs
sum_changed_same f h [] s e = refl
sum_changed_same f h (x ∷ xs) zero e = omega (arith, e x, sum_by-cons f (h x) xs, sum_by-cons f x xs)
sum_changed_same f h (x ∷ xs) (suc s) e = omega (arith, sum_changed_same f h xs s e, sum_by-cons f x (changed_at h xs s), sum_by-cons f x xs)

-- a sum of greater numbers, if a change of one gains something
pub sum_raised : {X : Type 0} (f g : X → ℕ) (h : X → X) (xs : List X) (s gain : ℕ) (d : X) → s < length xs → ((i : ℕ) → i < length xs → f (get_or xs i d) ≤ g (get_or xs i d))
    → f (get_or xs s d) + gain ≤ g (h (get_or xs s d)) → sum_by f xs + gain ≤ sum_by g (changed_at h xs s)
sum_raised f g h [] s gain d lt each here = absurd (omega arith)
sum_raised f g h (x ∷ xs) zero gain d lt each here =
    let rest = sum-mono f g xs d (λ i lt. each (suc i) (omega arith)) in
    omega (arith, sum_by-cons f x xs, sum_by-cons g (h x) xs)
sum_raised f g h (x ∷ xs) (suc s) gain d lt each here =
    let first : f x ≤ g x = each 0 (omega arith) in
    let rest = sum_raised f g h xs s gain d (omega arith) (λ i lt. each (suc i) (omega arith)) here in
    omega (arith, sum_by-cons f x xs, sum_by-cons g x (changed_at h xs s))

-- the same if a change of one keeps it greater
pub sum_raised-le : {X : Type 0} (f g : X → ℕ) (h : X → X) (xs : List X) (s : ℕ) (d : X) → ((i : ℕ) → i < length xs → f (get_or xs i d) ≤ g (get_or xs i d))
    → (s < length xs → f (get_or xs s d) ≤ g (h (get_or xs s d))) → sum_by f xs ≤ sum_by g (changed_at h xs s)
sum_raised-le f g h [] s d each here = omega arith
sum_raised-le f g h (x ∷ xs) zero d each here =
    let rest = sum-mono f g xs d (λ i lt. each (suc i) (omega arith)) in
    let one : f x ≤ g (h x) = here (omega arith) in
    omega (arith, sum_by-cons f x xs, sum_by-cons g (h x) xs)
sum_raised-le f g h (x ∷ xs) (suc s) d each here =
    let first : f x ≤ g x = each 0 (omega arith) in
    let rest = sum_raised-le f g h xs s d (λ i lt. each (suc i) (omega arith)) (λ lt. here (omega arith)) in
    omega (arith, sum_by-cons f x xs, sum_by-cons g x (changed_at h xs s))

-- a sum of numbers that are no greater, if one is nothing
pub sum_spared : {X : Type 0} (f g : X → ℕ) (xs : List X) (s : ℕ) (d : X) → s < length xs → ((i : ℕ) → i < length xs → f (get_or xs i d) ≤ g (get_or xs i d))
    → f (get_or xs s d) ≡ 0 → sum_by f xs + g (get_or xs s d) ≤ sum_by g xs
sum_spared f g [] s d lt each none = absurd (omega arith)
sum_spared f g (x ∷ xs) zero d lt each none =
    let rest = sum-mono f g xs d (λ i lt. each (suc i) (omega arith)) in
    omega (arith, sum_by-cons f x xs, sum_by-cons g x xs)
sum_spared f g (x ∷ xs) (suc s) d lt each none =
    let first : f x ≤ g x = each 0 (omega arith) in
    let rest = sum_spared f g xs s d (omega arith) (λ i lt. each (suc i) (omega arith)) none in
    omega (arith, sum_by-cons f x xs, sum_by-cons g x xs)
