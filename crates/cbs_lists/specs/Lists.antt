-- A list with one element changed.
use Rattle.std.specs.Prelude.{ℕ, zero, suc, List, [], ◌∷◌}

-- the list in which the element at i is replaced by f of that element
abbrev pub changed_at : {X : Type 0} → (X → X) → List X → ℕ → List X
changed_at f [] i = []
changed_at f (x ∷ xs) zero = f x ∷ xs
changed_at f (x ∷ xs) (suc i) = x ∷ changed_at f xs i
