-- A loop that goes over a list, element by element, and stops at the first fault.
use Rattle.std.proofs.Common.{◌≡◌, ℕ, ◌+◌, ◌<◌, ◌≤◌, List, [], ◌∷◌, ◌++◌, length, map, drop, get_or, Result, Ok, Err, refl, sym, ap, ◌∙◌, append_assoc}
use Rattle.std.proofs.lemmas.List.{drop_more, append-nil}
use Rattle.std.proofs.Math.ListN.{drop_of_length-le}
use Rattle.cbsrun_toml_tables.specs.Fields.{◌>>=◌, each_from}

-- the values so far, and then the others
abbrev pub with_front : {E B : Type 0} → List B → Result (List B) E → Result (List B) E
with_front front r = r >>= λ ys. Ok (front ++ ys)

regroup : {E B : Type 0} (front : List B) (y : B) (r : Result (List B) E) → with_front front (r >>= λ ys. Ok (y ∷ ys)) ≡ with_front (front ++ y ∷ []) r
regroup front y (Ok ys) = ap Ok (sym (append_assoc front (y ∷ []) ys))
regroup front y (Err e) = refl

-- the elements from i on, of which the first gave y
pub goes_on : {E A B : Type 0} (f : ℕ → A → Result B E) (front : List B) (i : ℕ) (xs : List A) (x : A) (y : B) (total : Result (List B) E) → i < length xs
    → f i (get_or xs i x) ≡ Ok y
    → with_front front (each_from i f (drop i xs)) ≡ total → with_front (front ++ y ∷ []) (each_from (i + 1) f (drop (i + 1) xs)) ≡ total
unfolding each_from
goes_on f front i xs x y total lt given so_far =
    let one : with_front front (each_from i f (drop i xs)) ≡ with_front (front ++ y ∷ []) (each_from (i + 1) f (drop (i + 1) xs)) =
    rw (drop_more xs i x lt, given) (regroup front y (each_from (i + 1) f (drop (i + 1) xs))) in
    sym one ∙ so_far

-- the first of the elements from i on failed
pub ends : {E A B : Type 0} (f : ℕ → A → Result B E) (front : List B) (i : ℕ) (xs : List A) (x : A) (e : E) (total : Result (List B) E) → i < length xs
    → f i (get_or xs i x) ≡ Err e
    → with_front front (each_from i f (drop i xs)) ≡ total → total ≡ Err e
unfolding each_from
ends f front i xs x e total lt given so_far =
    let one : with_front front (each_from i f (drop i xs)) ≡ Err e = rw (drop_more xs i x lt, given) refl in
    sym so_far ∙ one

-- no element is left
pub is_done : {E A B : Type 0} (f : ℕ → A → Result B E) (front : List B) (i : ℕ) (xs : List A) (total : Result (List B) E) → length xs ≤ i
    → with_front front (each_from i f (drop i xs)) ≡ total → total ≡ Ok front
unfolding each_from
is_done f front i xs total le so_far =
    let one : with_front front (each_from i f (drop i xs)) ≡ Ok front = rw (drop_of_length-le xs le) (ap Ok (append-nil front)) in
    sym so_far ∙ one

-- f of each element seen by view
pub each_from-map : {E V A B : Type 0} (view : V → A) (f : ℕ → A → Result B E) (i : ℕ) (vs : List V)
    → each_from i f (map view vs) ≡ each_from i (λ k v. f k (view v)) vs
unfolding each_from
each_from-map view f i [] = refl
each_from-map view f i (v ∷ vs) = ap (λ r. f i (view v) >>= λ y. r >>= λ ys. Ok (y ∷ ys)) (each_from-map view f (i + 1) vs)
