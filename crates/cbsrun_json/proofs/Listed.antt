-- Values of an array, one after another.
use Rattle.std.proofs.Common.{◌≡◌, ℕ, ◌+◌, ◌<◌, List, [], ◌∷◌, ◌++◌, length, map, take, get_or, refl, sym, ◌∙◌, arith}
use Rattle.std.specs.List.{range_with_len}
use Rattle.std.proofs.lemmas.List.{map_push, map_more}
use Rattle.std.proofs.lemmas.List.FromFn.{map-range_with_len_more}

-- elements by a function of the number of each, and one more
pub mapped_more : {X Y : Type 0} (f : X → Y) (g : ℕ → Y) (xs : List X) (x : X) (n : ℕ) → map f xs ≡ map g (range_with_len 0 n) → f x ≡ g n
    → map f (xs ++ x ∷ []) ≡ map g (range_with_len 0 (n + 1))
mapped_more f g xs x n old here = map_push f xs x ∙ rw (old, here) (sym (map-range_with_len_more g 0 n n (omega arith)))

-- the same of the elements of a list
pub listed_more : {X Y Z : Type 0} (f : X → Y) (g : Z → Y) (xs : List X) (x : X) (zs : List Z) (i : ℕ) (d : Z) → i < length zs
    → map f xs ≡ map g (take i zs) → f x ≡ g (get_or zs i d) → map f (xs ++ x ∷ []) ≡ map g (take (i + 1) zs)
listed_more f g xs x zs i d lt old here = map_push f xs x ∙ rw (old, here, map_more g zs i d lt) refl
