-- Rows and texts, one server after the other.
use Rattle.std.proofs.Common.{◌≡◌, ℕ, ◌+◌, ◌<◌, List, [], ◌∷◌, ◌++◌, length, take, get_or, refl, sym, ap, ◌∙◌, arith}
use Rattle.std.specs.Prelude.{map}
use Rattle.std.specs.List.{flat_map, range_with_len}
use Rattle.std.proofs.lemmas.Grind.{flat_map-append}
use Rattle.std.proofs.lemmas.List.{append-nil, map-id, map_push, map_more}
use Rattle.std.proofs.lemmas.List.FromFn.{map-range_with_len_more}

range_more : (n : ℕ) → range_with_len 0 (n + 1) ≡ range_with_len 0 n ++ n ∷ []
range_more n =
    sym (map-id (range_with_len 0 (n + 1)))
    ∙ (map-range_with_len_more (λ (x : ℕ). x) 0 n n (omega arith) ∙ ap (λ (t : List ℕ). t ++ n ∷ []) (map-id (range_with_len 0 n)))

-- the texts of n servers, and of one more
pub flat_more : (f : ℕ → List ℕ) (n : ℕ) → flat_map f (range_with_len 0 (n + 1)) ≡ flat_map f (range_with_len 0 n) ++ f n
flat_more f n =
    ap (flat_map f) (range_more n)
    ∙ (flat_map-append f (range_with_len 0 n) (n ∷ []) ∙ ap (λ (t : List ℕ). flat_map f (range_with_len 0 n) ++ t) (append-nil (f n)))

-- the rows of n servers after a heading, and of one more
pub rows_more : {X : Type 0} (heading : X) (f : ℕ → X) (n : ℕ) → (heading ∷ map f (range_with_len 0 n)) ++ f n ∷ [] ≡ heading ∷ map f (range_with_len 0 (n + 1))
rows_more heading f n = ap (λ t. heading ∷ t) (sym (map-range_with_len_more f 0 n n (omega arith)))

-- elements by a function of the number of each, and one more
pub mapped_more : {X Y : Type 0} (f : X → Y) (g : ℕ → Y) (xs : List X) (x : X) (n : ℕ) → map f xs ≡ map g (range_with_len 0 n) → f x ≡ g n
    → map f (xs ++ x ∷ []) ≡ map g (range_with_len 0 (n + 1))
mapped_more f g xs x n old here = map_push f xs x ∙ rw (old, here) (sym (map-range_with_len_more g 0 n n (omega arith)))

-- the same after a heading
pub headed_more : {X Y : Type 0} (f : X → Y) (g : ℕ → Y) (heading : Y) (xs : List X) (x : X) (n : ℕ) → map f xs ≡ heading ∷ map g (range_with_len 0 n)
    → f x ≡ g n → map f (xs ++ x ∷ []) ≡ heading ∷ map g (range_with_len 0 (n + 1))
headed_more f g heading xs x n old here = map_push f xs x ∙ rw (old, here) (rows_more heading g n)

-- the same of the elements of a list
pub listed_more : {X Y Z : Type 0} (f : X → Y) (g : Z → Y) (heading : Y) (xs : List X) (x : X) (zs : List Z) (i : ℕ) (d : Z) → i < length zs
    → map f xs ≡ heading ∷ map g (take i zs) → f x ≡ g (get_or zs i d) → map f (xs ++ x ∷ []) ≡ heading ∷ map g (take (i + 1) zs)
listed_more f g heading xs x zs i d lt old here = map_push f xs x ∙ rw (old, here, map_more g zs i d lt) refl
