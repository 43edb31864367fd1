-- Rows of elements that are gone over one after another.
use Rattle.std.proofs.Common.{◌≡◌, ◌∙◌, ℕ, ◌+◌, ◌-◌, ◌<◌, ◌≤◌, false, eqb, min, codes, List, [], ◌∷◌, ◌++◌, length, take, get_or, refl, sym, ap, append_assoc, arith}
use Rattle.std.specs.Prelude.{flat_map, map}
use Rattle.std.proofs.lemmas.Grind.{flat_map-append}
use Rattle.std.proofs.lemmas.List.{append-nil, map_more, map_push, length-map, take_all, take_min, take-map}
use Rattle.std.proofs.lemmas.Simd.{map-map}
use Rattle.std.proofs.lemmas.Bool.Decides.{nat_tests}
use Rattle.cbsrun_text.specs.Columns.{columns_text}
use Rattle.cbsrun_roundings.specs.Roundings.{RoundedTime, rounded_view}
use Rattle.cbsrun_roundings.specs.declared.rounded.Rounded.{Rounded}
use Rattle.cbsrun_roundings.specs.Tables.{more_text, roundings_table, roundings_text}

-- what the first elements give, and what one more gives
pub flat_more : {X Y Z : Type 0} (f : Y → List Z) (view : X → Y) (xs : List X) (i : ℕ) (d : X) → i < length xs
    → flat_map f (map view (take (i + 1) xs)) ≡ flat_map f (map view (take i xs)) ++ f (view (get_or xs i d))
flat_more f view xs i d lt =
    ap (flat_map f) (map_more view xs i d lt)
    ∙ (flat_map-append f (map view (take i xs)) (view (get_or xs i d) ∷ []) ∙ ap (λ t. flat_map f (map view (take i xs)) ++ t) (append-nil (f (view (get_or xs i d)))))

-- rows with what one more element gives
pub rows_more : {X Y Z : Type 0} (f : Y → List Z) (view : X → Y) (xs : List X) (i : ℕ) (x : X) (first old new : List Z) → i < length xs → x ≡ get_or xs i x
    → old ≡ first ++ flat_map f (map view (take i xs)) → new ≡ old ++ f (view x) → new ≡ first ++ flat_map f (map view (take (i + 1) xs))
rows_more {X} {Y} {Z} f view xs i x first old new lt is so_far more =
    let here : f (view x) ≡ f (view (get_or xs i x)) = ap (λ (v : X). f (view v)) is in
    more
    ∙ (ap (λ (t : List Z). t ++ f (view x)) so_far
    ∙ (append_assoc first (flat_map f (map view (take i xs))) (f (view x))
    ∙ ap (λ (t : List Z). first ++ t) (ap (λ (t : List Z). flat_map f (map view (take i xs)) ++ t) here ∙ sym (flat_more f view xs i x lt))))

-- rows below a heading, and the row of one more element
pub row_more : {X Y V : Type 0} (f : X → Y) (g : V → Y) (heading : Y) (xs : List X) (x : X) (vs : List V) (i : ℕ) (d : V) → i < length vs
    → map f xs ≡ heading ∷ map g (take i vs) → f x ≡ g (get_or vs i d) → map f (xs ++ x ∷ []) ≡ heading ∷ map g (take (i + 1) vs)
row_more f g heading xs x vs i d lt old here = map_push f xs x ∙ rw (old, here, map_more g vs i d lt) refl

-- the rows of all elements
pub rows_done : {X Y Z V : Type 0} (f : X → Y) (g : Z → Y) (view : V → Z) (heading : Y) (xs : List X) (vs : List V) (i : ℕ) → length vs ≤ i
    → map f xs ≡ heading ∷ map (λ v. g (view v)) (take i vs) → map f xs ≡ heading ∷ map g (map view vs)
rows_done {X} {Y} {Z} {V} f g view heading xs vs i le so_far =
    so_far ∙ ap (λ (t : List Y). heading ∷ t) (ap (map (λ (v : V). g (view v))) (take_all i vs le) ∙ sym (map-map g view vs))

-- the whole text, if there is a time
pub text_is : (tick : ℕ) (old : List ℕ) (rows : List RoundedTime) → 0 < length rows
    → ((old ++ codes "\n") ++ columns_text (roundings_table tick (take 20 rows))) ++ more_text (length rows - 20) ≡ old ++ roundings_text tick rows
unfolding roundings_text
text_is tick old rows h = let some : eqb (length rows) 0 ≡ false = grind (arith, nat_tests) in rw some (simp append_assoc)

-- .. by the times as the code holds them
pub text_of : (tick : ℕ) (rounded : List Rounded) (shown : ℕ) (old new : List ℕ) → 0 < length rounded → shown ≡ min (length rounded) 20
    → new ≡ (old ++ codes "\n") ++ columns_text (roundings_table tick (map rounded_view (take shown rounded)))
    → new ++ more_text (length rounded - shown) ≡ old ++ roundings_text tick (map rounded_view rounded)
text_of tick rounded shown old new some is so_far =
    let rows = map rounded_view rounded in
    let all = length-map rounded rounded_view in
    let few : shown ≡ min 20 (length rounded) = omega arith in
    let same : map rounded_view (take shown rounded) ≡ take 20 rows =
    ap (λ (n : ℕ). map rounded_view (take n rounded)) few ∙ (ap (map rounded_view) (take_min 20 rounded) ∙ sym (take-map rounded_view 20 rounded)) in
    let count : length rounded - shown ≡ length rows - 20 = omega (arith, all) in
    ap (λ (t : List ℕ). t ++ more_text (length rounded - shown)) so_far
    ∙ (ap (λ (n : ℕ). ((old ++ codes "\n") ++ columns_text (roundings_table tick (map rounded_view (take shown rounded)))) ++ more_text n) count
    ∙ (ap (λ (r : List RoundedTime). ((old ++ codes "\n") ++ columns_text (roundings_table tick r)) ++ more_text (length rows - 20)) same
    ∙ text_is tick old rows (omega (arith, all))))
