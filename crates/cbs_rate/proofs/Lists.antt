-- What holds of each element of a list and of one more.
use Rattle.std.proofs.Common.{List, [], ◌∷◌, ◌++◌}
use Rattle.std.specs.List.{AllByRecursion}

-- what holds of each, and of one more
pub AllByRecursion-push : {X : Type 0} (P : X → Type 0) (xs : List X) (y : X) → AllByRecursion P xs → P y → AllByRecursion P (xs ++ y ∷ [])
AllByRecursion-push P [] y all here = (here, tt)
AllByRecursion-push P (x ∷ xs) y all here = (all.0, AllByRecursion-push P xs y all.1 here)

-- and the other way round
pub AllByRecursion-from_push : {X : Type 0} (P : X → Type 0) (xs : List X) (y : X) → AllByRecursion P (xs ++ y ∷ []) → AllByRecursion P xs × P y
AllByRecursion-from_push P [] y all = (tt, all.0)
AllByRecursion-from_push P (x ∷ xs) y all =
    let rest = AllByRecursion-from_push P xs y all.1 in
    ((all.0, rest.0), rest.1)
