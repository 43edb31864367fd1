-- One server more, by its number.
use Rattle.std.proofs.Common.{◌≡◌, ◌∙◌, ℕ, ◌+◌, ◌<◌, List, [], ◌∷◌, ◌++◌, length, take, append_assoc, arith, sym, ap}
use Rattle.std.specs.Prelude.{get_or}
use Rattle.std.proofs.lemmas.List.{append-nil, length-take-le, take_more}
use Rattle.cbsrun_chart.specs.declared.picture.Drawn.{Drawn}
use Rattle.cbsrun_perfetto.specs.Traces.{numbered}

-- at the end
numbered_push : {X : Type 0} (f : ℕ → Drawn → List X) (n : ℕ) (ds : List Drawn) (d : Drawn)
    → numbered f n (ds ++ d ∷ []) ≡ numbered f n ds ++ f (n + length ds) d
numbered_push f n [] d = let same : n ≡ n + 0 = omega arith in append-nil (f n d) ∙ ap (λ k. f k d) same
numbered_push f n (x ∷ ds) d =
    let same : n + 1 + length ds ≡ n + length (x ∷ ds) = omega arith in
    ap (λ t. f n x ++ t) (numbered_push f (n + 1) ds d)
    ∙ (sym (append_assoc (f n x) (numbered f (n + 1) ds) (f (n + 1 + length ds) d))
    ∙ ap (λ k. (f n x ++ numbered f (n + 1) ds) ++ f k d) same)

-- .. the next one of a list
pub numbered_next : {X : Type 0} (f : ℕ → Drawn → List X) (n : ℕ) (ds : List Drawn) (i : ℕ) (d : Drawn) → i < length ds
    → numbered f n (take (i + 1) ds) ≡ numbered f n (take i ds) ++ f (n + i) (get_or ds i d)
numbered_next f n ds i d lt =
    let count : length (take i ds) ≡ i = length-take-le i ds (omega arith) in
    ap (numbered f n) (take_more ds i d lt) ∙ (numbered_push f n (take i ds) (get_or ds i d)
    ∙ ap (λ k. numbered f n (take i ds) ++ f (n + k) (get_or ds i d)) count)
