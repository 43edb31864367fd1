-- The elements that pass a test, from the first one on.
use Rattle.std.proofs.Common.{◌≡◌, ◌∙◌, ℕ, zero, suc, ◌+◌, ◌<◌, ◌≤◌, Bool, true, false, not, cond, ltb, List}
use Rattle.std.proofs.Common.{[], ◌∷◌, length, get_or, drop, Some, None, refl, sym, ap, add-one, arith}
use Rattle.std.specs.Prelude.{filter, position}
use Rattle.std.specs.List.{position_or_len}
use Rattle.std.proofs.Math.Seq.{drop-cons}
use Rattle.std.proofs.lemmas.Bool.Decides.{nat_tests}
use Rattle.std.proofs.lemmas.List.Quantifiers.{position-Some}

-- the elements before the first one are passed over
passed_over : {X : Type 0} (p : X → Bool) (xs : List X) (i : ℕ) (d : X) → i ≤ length xs → ((k : ℕ) → k < i → p (get_or xs k d) ≡ false)
    → filter p xs ≡ filter p (drop i xs)
passed_over p xs zero d h fails = refl
passed_over p [] (suc i) d h fails = absurd (omega arith)
passed_over p (x ∷ xs) (suc i) d h fails =
    let here : p x ≡ false = fails 0 (omega arith) in
    ap (λ b. cond b (x ∷ filter p xs) (filter p xs)) here ∙ passed_over p xs i d (omega arith) (λ k lt. fails (suc k) (omega arith))

-- the first element that passes, and those after it
pub filter_from_position : {X : Type 0} (p : X → Bool) (xs : List X) (i : ℕ) (d : X) → position p xs ≡ Some i
    → filter p xs ≡ get_or xs i d ∷ filter p (drop (i + 1) xs)
filter_from_position p xs i d is =
    let found = position-Some p xs i d is in
    passed_over p xs i d (omega (arith, found.0)) found.2
    ∙ (ap (filter p) (drop-cons xs i d found.0)
    ∙ (ap (λ b. cond b (get_or xs i d ∷ filter p (drop (suc i) xs)) (filter p (drop (suc i) xs))) found.1
    ∙ ap (λ n. get_or xs i d ∷ filter p (drop n xs)) (sym (add-one i))))

-- a place that is none is past all places
past_all : (a n : ℕ) → cond (ltb a n) (Some a) None ≡ None → n ≤ a
past_all a n is = grind (arith, nat_tests)

-- none passes
none_more : {X : Type 0} (x : X) (rest : List X) (m n : ℕ) (b : Bool) → (m ≤ n → rest ≡ []) → suc m ≤ cond (not b) (1 + n) 0 → cond b (x ∷ rest) rest ≡ []
none_more x rest m n true before h = absurd (omega arith)
none_more x rest m n false before h = before (omega arith)

-- if the first place that passes is past all, nothing passes
none_passes : {X : Type 0} (p : X → Bool) (xs : List X) → length xs ≤ position_or_len p xs → filter p xs ≡ []
none_passes p [] h = refl
none_passes p (x ∷ xs) h = none_more x (filter p xs) (length xs) (position_or_len p xs) (p x) (none_passes p xs) h

-- if no place passes, nothing is left
pub filter_from_no_position : {X : Type 0} (p : X → Bool) (xs : List X) → position p xs ≡ None → filter p xs ≡ []
filter_from_no_position p xs is = none_passes p xs (past_all (position_or_len p xs) (length xs) is)
