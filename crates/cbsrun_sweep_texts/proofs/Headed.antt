-- Rows of one server after the other.
use Rattle.std.proofs.Common.{◌≡◌, ℕ, ◌+◌, List, [], ◌∷◌, ◌++◌, ap, sym, ◌∙◌, arith}
use Rattle.std.specs.Prelude.{map}
use Rattle.std.specs.List.{range_with_len}
use Rattle.std.proofs.lemmas.List.{map_push}
use Rattle.std.proofs.lemmas.List.FromFn.{map-range_with_len_more}

-- rows after a heading, by a function of the number of each, and one more
pub one_row_more : {X Y : Type 0} (f : X → Y) (g : ℕ → Y) (heading : Y) (xs : List X) (x : X) (n : ℕ) → map f xs ≡ heading ∷ map g (range_with_len 0 n)
    → f x ≡ g n → map f (xs ++ x ∷ []) ≡ heading ∷ map g (range_with_len 0 (n + 1))
one_row_more f g heading xs x n old here =
    map_push f xs x ∙ rw (old, here) (ap (λ t. heading ∷ t) (sym (map-range_with_len_more g 0 n n (omega arith))))
