-- Servers in order, and in parts: each stands once.
use Rattle.std.proofs.Common.{◌≡◌, ℕ, zero, suc, ◌+◌, ◌≤◌, ◌<◌, false, List, [], ◌∷◌, ◌++◌, length, arith, refl, ap, inl}
use Rattle.std.proofs.Common.{inr, append_assoc, append-nil}
use Rattle.std.specs.Option.{is_none}
use Rattle.std.specs.List.{AllByRecursion, concat, range_with_len}
use Rattle.std.specs.List.Sorted.{IsPermutation}
use Rattle.std.proofs.lemmas.Bool.{cases_Bool}
use Rattle.std.proofs.lemmas.Bool.Decides.{nat_tests}
use Rattle.std.proofs.lemmas.List.Sorted.{IsPermutation-refl, IsPermutation-sym, IsPermutation-cons, IsPermutation-middle, IsPermutation-append_right}
use Rattle.std.proofs.lemmas.List.Sorted.{IsPermutation-trans}
use Rattle.cbs_rate.specs.Bound.{Fraction}
use Rattle.cbs_rate.specs.Plan.{admit_refusal}
use Rattle.cbs_rate.specs.Rate.{Rate}
use Rattle.cbs_guarantee.specs.Parts.{rate_at, is_at_most, ordered_with, ComesBefore, IsGreatestFirst, StandOnce, IsOrder, plan_of, placed, first_fit}

-- the first n servers in order
abbrev pub greatest_first : List Rate → ℕ → List ℕ
greatest_first rates zero = []
greatest_first rates (suc n) = ordered_with rates n (greatest_first rates n)

-- one more number
range-push : (a n : ℕ) → range_with_len a (suc n) ≡ range_with_len a n ++ (a + n) ∷ []
range-push a zero = let e : a + 0 ≡ a = omega arith in rw e refl
range-push a (suc n) =
    let e : a + 1 + n ≡ a + suc n = omega arith in
    ap (λ xs. a ∷ xs) (rw e at (range-push (a + 1) n))

module _ (rates : List Rate) where
  -- one more server in order is one more
  ordered-once : (s : ℕ) (order : List ℕ) → IsPermutation (s ∷ order) (ordered_with rates s order)
  ordered-once s [] = IsPermutation-refl (s ∷ [])
  ordered-once s (t ∷ order) = elim (cases_Bool (is_at_most (rate_at rates s) (rate_at rates t))) [
    | inr f ↦ rw f (IsPermutation-refl (s ∷ t ∷ order))
    | inl y ↦
        let swapped : IsPermutation (s ∷ t ∷ order) (t ∷ s ∷ order) =
        IsPermutation-sym (t ∷ s ∷ order) (s ∷ t ∷ order) (IsPermutation-middle (t ∷ []) s order) in
        let rest = IsPermutation-cons t (s ∷ order) (ordered_with rates s order) (ordered-once s order) in
        rw y (IsPermutation-trans (s ∷ t ∷ order) (t ∷ s ∷ order) (t ∷ ordered_with rates s order) swapped rest)
  ]

  -- each of the first servers stands once
  first-once : (n : ℕ) → IsPermutation (range_with_len 0 n) (greatest_first rates n)
  first-once zero = IsPermutation-refl []
  first-once (suc n) =
      let e = range-push 0 n in
      let z : 0 + n ≡ n = omega arith in
      let front : IsPermutation (range_with_len 0 n ++ n ∷ []) (n ∷ (range_with_len 0 n ++ [])) = IsPermutation-middle (range_with_len 0 n) n [] in
      let plain : IsPermutation (range_with_len 0 n ++ n ∷ []) (n ∷ range_with_len 0 n) = rw (append-nil (range_with_len 0 n)) at front in
      let rest = IsPermutation-cons n (range_with_len 0 n) (greatest_first rates n) (first-once n) in
      let all = IsPermutation-trans (range_with_len 0 n ++ n ∷ []) (n ∷ range_with_len 0 n) (n ∷ greatest_first rates n) plain rest in
      rw (e, z) (IsPermutation-trans (range_with_len 0 n ++ n ∷ []) (n ∷ greatest_first rates n) (ordered_with rates n (greatest_first rates n)) all
      (ordered-once n (greatest_first rates n)))

  -- of two servers, one has at most the bandwidth of the other
  greater : (s t : ℕ) → is_at_most (rate_at rates s) (rate_at rates t) ≡ false → ComesBefore rates s t
  greater s t f = record { bandwidth = grind (arith, nat_tests); number = λ y. absurd (grind (arith, nat_tests)) }

  -- if t comes before s and before the head of the order, it comes before the head of both
  behind : (t s : ℕ) (order : List ℕ) → ComesBefore rates t s → IsGreatestFirst rates (t ∷ order) → IsGreatestFirst rates (ordered_with rates s order)
      → IsGreatestFirst rates (t ∷ ordered_with rates s order)
  behind t s [] first sorted rest = (first, tt)
  behind t s (u ∷ order) first sorted rest = elim (cases_Bool (is_at_most (rate_at rates s) (rate_at rates u))) [
    | inl y ↦ rw y (sorted.0, rw y at rest)
    | inr f ↦ rw f (first, rw f at rest)
  ]

  -- one more server, with a greater number, keeps the order
  ordered-sorted : (s : ℕ) (order : List ℕ) → AllByRecursion (λ t. t < s) order → IsGreatestFirst rates order
      → IsGreatestFirst rates (ordered_with rates s order)
  ordered-sorted s [] below sorted = tt
  ordered-sorted s (t ∷ order) below sorted = elim (cases_Bool (is_at_most (rate_at rates s) (rate_at rates t))) [
    | inr f ↦ rw f (greater s t f, sorted)
    | inl y ↦
        let lt = below.0 in
        let first : ComesBefore rates t s = record { bandwidth = y; number = λ also. lt } in
        rw y (behind t s order first sorted (ordered-sorted s order below.1 (rest t order sorted)))
  ]
    where
      rest : (t : ℕ) (order : List ℕ) → IsGreatestFirst rates (t ∷ order) → IsGreatestFirst rates order
      rest t [] sorted = tt
      rest t (u ∷ order) sorted = sorted.1

  -- the numbers of the first servers are below n
  first-below : (n m : ℕ) → n ≤ m → AllByRecursion (λ t. t < m) (greatest_first rates n)
  first-below zero m le = tt
  first-below (suc n) m le = put n (greatest_first rates n) le (first-below n m (omega arith))
    where
      put : (s : ℕ) (order : List ℕ) → suc s ≤ m → AllByRecursion (λ t. t < m) order → AllByRecursion (λ t. t < m) (ordered_with rates s order)
      put s [] le all = (omega arith, tt)
      put s (t ∷ order) le all = elim (cases_Bool (is_at_most (rate_at rates s) (rate_at rates t))) [
        | inl y ↦ rw y (all.0, put s order le all.1)
        | inr f ↦ rw f (omega arith, all)
      ]

  first-sorted : (n : ℕ) → IsGreatestFirst rates (greatest_first rates n)
  first-sorted zero = tt
  first-sorted (suc n) = ordered-sorted n (greatest_first rates n) (first-below n n (omega arith)) (first-sorted n)

  -- so all servers are in order
  pub order_is : (order : List ℕ) → order ≡ greatest_first rates (length rates) → IsOrder rates order
  order_is order e = rw e record { once = first-once (length rates); sorted = first-sorted (length rates) }

  module _ (bound : Fraction) where
    -- one more server in parts is one more
    placed-once : (s : ℕ) (parts : List (List ℕ)) → IsPermutation (s ∷ concat parts) (concat (placed bound rates s parts))
    placed-once s [] = IsPermutation-refl (s ∷ [])
    placed-once s (p ∷ parts) =
        let inside : IsPermutation (s ∷ (p ++ concat parts)) (p ++ s ∷ concat parts) =
        IsPermutation-sym (p ++ s ∷ concat parts) (s ∷ (p ++ concat parts)) (IsPermutation-middle p s (concat parts)) in
        elim (cases_Bool (is_none (admit_refusal (plan_of bound rates p) (rate_at rates s)))) [
          | inl y ↦ rw (y, append_assoc p (s ∷ []) (concat parts)) inside
          | inr f ↦
              let rest = IsPermutation-append_right p (s ∷ concat parts) (concat (placed bound rates s parts)) (placed-once s parts) in
              rw f (IsPermutation-trans (s ∷ (p ++ concat parts)) (p ++ s ∷ concat parts) (p ++ concat (placed bound rates s parts)) inside rest)
        ]

    -- so are more servers
    fit-once : (order : List ℕ) (parts : List (List ℕ)) → IsPermutation (order ++ concat parts) (concat (first_fit bound rates order parts))
    fit-once [] parts = IsPermutation-refl (concat parts)
    fit-once (s ∷ order) parts =
        let inside : IsPermutation (s ∷ (order ++ concat parts)) (order ++ s ∷ concat parts) =
        IsPermutation-sym (order ++ s ∷ concat parts) (s ∷ (order ++ concat parts)) (IsPermutation-middle order s (concat parts)) in
        let more = IsPermutation-append_right order (s ∷ concat parts) (concat (placed bound rates s parts)) (placed-once s parts) in
        let rest = fit-once order (placed bound rates s parts) in
        let both = IsPermutation-trans (s ∷ (order ++ concat parts)) (order ++ s ∷ concat parts) (order ++ concat (placed bound rates s parts)) inside more in
        IsPermutation-trans (s ∷ (order ++ concat parts)) (order ++ concat (placed bound rates s parts)) (concat (first_fit bound rates order
        (placed bound rates s parts))) both rest

    -- each server of an order stands once in the parts that first fit makes
    pub parts_once : (order : List ℕ) (parts : List (List ℕ)) → StandOnce rates order → parts ≡ first_fit bound rates order [] → StandOnce rates (concat parts)
    parts_once order parts once e =
        let all = fit-once order [] in
        let plain = rw (append-nil order) at all in
        rw e (IsPermutation-trans (range_with_len 0 (length rates)) order (concat (first_fit bound rates order [])) once plain)
