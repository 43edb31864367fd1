-- One stretch more in the counts of a cell.
use Rattle.std.proofs.Common.{◌≡◌, ◌∙◌, ℕ, ◌+◌, ◌<◌, Bool, true, false, List, [], ◌∷◌, ◌++◌, length, take, arith, refl, ap}
use Rattle.std.specs.Prelude.{get_or}
use Rattle.std.proofs.lemmas.List.{take_more}
use Rattle.std.proofs.lemmas.List.Sums.{sum_by-append}
use Rattle.cbsrun_window.specs.Counts.{counted, counts_of, counts_with, overlap, ticks_if, told}
use Rattle.cbsrun_window.specs.declared.counts.Counts.{Counts}
use Rattle.cbsrun_window.specs.declared.stretch.Kind.{Kind}
use Rattle.cbsrun_window.specs.declared.stretch.Stretch.{Stretch}

-- a sum as a chart gives it, with one number more
told_more : (a b : ℕ) → told (a + b) ≡ told (told a + b)
told_more a b = omega arith

-- the ticks of one kind, with one stretch more at the end
counted_more : (is : Kind → Bool) (from to : ℕ) (ps : List Stretch) (p : Stretch)
    → told (counted is from to (ps ++ p ∷ [])) ≡ told (told (counted is from to ps) + ticks_if (is p.kind) (overlap from to p))
counted_more is from to ps p =
    let f : Stretch → ℕ = λ q. ticks_if (is q.kind) (overlap from to q) in
    let h = sum_by-append f ps (p ∷ []) in
    let g : counted is from to (ps ++ p ∷ []) ≡ counted is from to ps + f p = omega (arith, h) in
    ap told g ∙ told_more (counted is from to ps) (f p)

same_counts : (a b : Counts) → a.runs ≡ b.runs → a.charged ≡ b.charged → a.throttled ≡ b.throttled → a.waits ≡ b.waits → a.refused ≡ b.refused → a.late ≡ b.late
    → a.idle ≡ b.idle → a ≡ b
same_counts a b d e f g h i j = rw (d, e, f, g, h, i, j) refl

-- all counts, with one stretch more
counts_more : (from to : ℕ) (ps : List Stretch) (p : Stretch) → counts_of from to (ps ++ p ∷ []) ≡ counts_with p.kind (overlap from to p) (counts_of from to ps)
counts_more from to ps p =
    same_counts (counts_of from to (ps ++ p ∷ [])) (counts_with p.kind (overlap from to p) (counts_of from to ps)) (counted_more _ from to ps p)
    (counted_more _ from to ps p) (counted_more _ from to ps p) (counted_more _ from to ps p) (counted_more _ from to ps p) (counted_more _ from to ps p)
    (counted_more _ from to ps p)

none_if : (b : Bool) → ticks_if b 0 ≡ 0
none_if true = refl
none_if false = refl

told_none : (a n : ℕ) → n ≡ 0 → told (told a + n) ≡ told a
told_none a n e = omega arith

-- a stretch that takes no tick of the cell changes no count
counts_same : (from to : ℕ) (ps : List Stretch) (k : Kind) → counts_with k 0 (counts_of from to ps) ≡ counts_of from to ps
counts_same from to ps k =
    same_counts (counts_with k 0 (counts_of from to ps)) (counts_of from to ps) (told_none _ _ (none_if _)) (told_none _ _ (none_if _))
    (told_none _ _ (none_if _))
    (told_none _ _ (none_if _)) (told_none _ _ (none_if _)) (told_none _ _ (none_if _)) (told_none _ _ (none_if _))

-- the counts of the first stretches, with the next one
pub counts_next : (from to : ℕ) (ps : List Stretch) (i : ℕ) (d : Stretch) → i < length ps
    → counts_of from to (take (i + 1) ps) ≡ counts_with (get_or ps i d).kind (overlap from to (get_or ps i d)) (counts_of from to (take i ps))
counts_next from to ps i d lt = ap (counts_of from to) (take_more ps i d lt) ∙ counts_more from to (take i ps) (get_or ps i d)

-- the same for a stretch that takes no tick of the cell
pub counts_skipped : (from to : ℕ) (ps : List Stretch) (i : ℕ) (d : Stretch) → i < length ps → overlap from to (get_or ps i d) ≡ 0
    → counts_of from to (take (i + 1) ps) ≡ counts_of from to (take i ps)
counts_skipped from to ps i d lt none =
    counts_next from to ps i d lt
    ∙ (ap (λ n. counts_with (get_or ps i d).kind n (counts_of from to (take i ps))) none ∙ counts_same from to (take i ps) (get_or ps i d).kind)
