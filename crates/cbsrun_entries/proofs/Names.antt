-- The names of servers, as texts and as their bytes.
use Rattle.std.proofs.Common.{◌≡◌, ◌+◌, Bool, ◌||◌, List, [], ◌∷◌, map, refl, ap, inl, inr}
use Rattle.std.specs.List.{list_any, position, position_or_len}
use Rattle.std.proofs.lemmas.Bool.{cases_Bool}
use Rattle.std.proofs.lemmas.List.{length-map}

-- a test of what f makes of each element is a test of each element
pub list_any-mapped : {X Y : Type 0} (p : Y → Bool) (f : X → Y) (xs : List X) → list_any p (map f xs) ≡ list_any (λ x. p (f x)) xs
list_any-mapped p f [] = refl
list_any-mapped p f (x ∷ xs) = ap (λ b. p (f x) || b) (list_any-mapped p f xs)

-- the same for the first element that passes
position-mapped : {X Y : Type 0} (p : Y → Bool) (f : X → Y) (xs : List X) → position_or_len p (map f xs) ≡ position_or_len (λ x. p (f x)) xs
position-mapped p f [] = refl
position-mapped p f (x ∷ xs) = elim (cases_Bool (p (f x))) [ inl t ↦ rw t refl | inr n ↦ rw n (ap (λ k. 1 + k) (position-mapped p f xs)) ]

-- the same for its place
pub place-mapped : {X Y : Type 0} (p : Y → Bool) (f : X → Y) (xs : List X) → position p (map f xs) ≡ position (λ x. p (f x)) xs
place-mapped p f xs = rw (position-mapped p f xs, length-map xs f) refl
