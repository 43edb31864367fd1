-- The servers of a picture that are drawn.
use Rattle.std.proofs.Common.{◌≡◌, Bool, List, [], ◌∷◌, ap, map, refl, ◌||◌}
use Rattle.std.specs.List.{list_any}

-- a test of each item, made of what is told of it
pub any_map : {X Y : Type 0} (f : X → Y) (p : Y → Bool) (xs : List X) → list_any p (map f xs) ≡ list_any (λ x. p (f x)) xs
any_map f p [] = refl
any_map f p (x ∷ xs) = ap (λ b. p (f x) || b) (any_map f p xs)
