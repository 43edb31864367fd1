-- Names that are wanted, one after another.
use Rattle.std.proofs.Common.{◌≡◌, ◌∙◌, ℕ, zero, suc, ◌+◌, ◌<◌, ◌&&◌, true, List, [], ◌∷◌, ◌++◌, ap, arith, length, map, take, Result, Ok, Err, Some, sym}
use Rattle.std.specs.Prelude.{OnOk, get_or, slice_get}
use Rattle.std.proofs.lemmas.List.{append-nil, map-append, take_more}
use Rattle.std.proofs.lemmas.Option.{get_or_from_slice_get, slice_get_within}
use Rattle.cbsrun_commands.specs.Drawings.{BeginsWith, are_among, is_among}

-- one name more is among the names
pub among_more : {X : Type 0} (f : X → List ℕ) (names : List (List ℕ)) (xs : List X) (i : ℕ) (d : X) → i < length xs
    → are_among names (map f (take i xs)) ≡ true → is_among names (f (get_or xs i d)) ≡ true → are_among names (map f (take (i + 1) xs)) ≡ true
among_more f names [] i d lt so_far here = absurd (omega arith)
among_more f names (x ∷ xs) zero d lt so_far here = grind arith
among_more f names (x ∷ xs) (suc i) d lt so_far here =
    let rest : are_among names (map f (take i xs)) ≡ true = grind arith in
    let more = among_more f names xs i d (omega arith) rest here in
    let step : suc i + 1 ≡ suc (i + 1) = omega arith in
    rw step (grind (arith, more))

-- a text that grew begins as it did
pub grown : {E : Type 0} (r : Result (Unit {0}) E) (old new piece : List ℕ) → OnOk r (new ≡ old ++ piece) → OnOk r (BeginsWith old new)
grown (Ok x) old new piece is = (piece, is)
grown (Err e) old new piece is = tt

-- .. and so does one that grew again
pub begins_as : (front text new : List ℕ) → text ≡ front → BeginsWith text new → BeginsWith front new
begins_as front text new is begins = (begins.0, begins.1 ∙ ap (λ t. t ++ begins.0) is)

-- a text begins with itself
pub begins_with_itself : (text : List ℕ) → BeginsWith text text
begins_with_itself text = ([], sym (append-nil text))

-- one more of the first elements, as a function makes it
pub map_taken : {A B : Type 0} (f : A → B) (xs : List A) (ys : List B) (i : ℕ) (x : A) → map f xs ≡ take i ys → Some (f x) ≡ slice_get ys i
    → map f (xs ++ x ∷ []) ≡ take (i + 1) ys
map_taken f xs ys i x so_far at =
    let here = get_or_from_slice_get ys i (f x) (f x) (sym at) in
    map-append f xs (x ∷ []) ∙ (ap (λ zs. zs ++ f x ∷ []) so_far
    ∙ sym (take_more ys i (f x) (slice_get_within ys i (f x) (sym at)) ∙ ap (λ y. take i ys ++ y ∷ []) here))
