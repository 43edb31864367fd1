-- Rows of all servers, of the steps that were seen.
use Rattle.std.proofs.Common.{◌≡◌, ◌∙◌, ℕ, zero, suc, ◌+◌, ◌<◌, List, [], ◌∷◌, ◌++◌, length, map, take, Some, arith, refl, sym, ap}
use Rattle.std.specs.Prelude.{get_or, slice_get}
use Rattle.std.proofs.lemmas.List.{map-append, take_more}
use Rattle.cbs_rate.specs.Rate.{Rate}
use Rattle.cbsrun_chart.specs.Charts.{RowSeen, new_row, row_at, IsRowChart}
use Rattle.cbsrun_chart.specs.declared.chart.ServerChart.{ServerChart}
use Rattle.cbsrun_window.specs.declared.window.Window.{Window}

-- what is found at a place stands there
pub found : {X : Type 0} (xs : List X) (i : ℕ) (x d : X) → Some x ≡ slice_get xs i → (i < length xs) × (get_or xs i d ≡ x)
found [] i x d e = absurd cc
found (y ∷ xs) zero x d e = let same : y ≡ x = cc in (omega arith, same)
found (y ∷ xs) (suc i) x d e = let h = found xs i x d e in (let lt = h.0 in omega arith, h.1)

-- one row more, of the rate at a place
pub rows_more : (rows : List RowSeen) (rs : List Rate) (i : ℕ) (row : RowSeen) (r : Rate) → rows ≡ map new_row (take i rs) → Some r ≡ slice_get rs i
    → row ≡ new_row r → rows ++ row ∷ [] ≡ map new_row (take (i + 1) rs)
rows_more rows rs i row r so_far is same =
    let here = found rs i r r is in
    let at : take (i + 1) rs ≡ take i rs ++ r ∷ [] = take_more rs i r here.0 ∙ ap (λ x. take i rs ++ x ∷ []) here.1 in
    ap (λ ys. ys ++ row ∷ []) so_far
    ∙ (ap (λ y. map new_row (take i rs) ++ y ∷ []) same ∙ (sym (map-append new_row (take i rs) (r ∷ [])) ∙ ap (map new_row) (sym at)))

-- the charts of rows
abbrev pub AreRowCharts : Window → ℕ → List RowSeen → List ServerChart → Type 0
AreRowCharts w end [] [] = Unit {0}
AreRowCharts w end (row ∷ rows) (c ∷ cs) = IsRowChart w end row c × AreRowCharts w end rows cs
AreRowCharts w end _ _ = ⊥

-- one more
pub charts_more : (w : Window) (end : ℕ) (rows : List RowSeen) (cs : List ServerChart) (row : RowSeen) (c : ServerChart) → AreRowCharts w end rows cs
    → IsRowChart w end row c → AreRowCharts w end (rows ++ row ∷ []) (cs ++ c ∷ [])
charts_more w end [] [] row c all one = (one, tt)
charts_more w end (x ∷ rows) (y ∷ cs) row c all one = (all.0, charts_more w end rows cs row c all.1 one)
charts_more w end [] (y ∷ cs) row c all one = absurd all
charts_more w end (x ∷ rows) [] row c all one = absurd all

-- as many charts as rows
pub charts_count : (w : Window) (end : ℕ) (rows : List RowSeen) (cs : List ServerChart) → AreRowCharts w end rows cs → length cs ≡ length rows
charts_count w end [] [] all = refl
charts_count w end (x ∷ rows) (y ∷ cs) all = let h = charts_count w end rows cs all.1 in omega arith
charts_count w end [] (y ∷ cs) all = absurd all
charts_count w end (x ∷ rows) [] all = absurd all

-- the one at a place is of the row at that place
pub chart_at : (w : Window) (end : ℕ) (rows : List RowSeen) (cs : List ServerChart) (s : ℕ) (c : ServerChart) → AreRowCharts w end rows cs
    → slice_get cs s ≡ Some c → (s < length rows) × IsRowChart w end (row_at rows s) c
chart_at w end [] [] s c all e = absurd cc
chart_at w end (x ∷ rows) (y ∷ cs) zero c all e = let same : y ≡ c = cc in (omega arith, rw (← same) all.0)
chart_at w end (x ∷ rows) (y ∷ cs) (suc s) c all e = let h = chart_at w end rows cs s c all.1 e in (let lt = h.0 in omega arith, h.1)
chart_at w end [] (y ∷ cs) s c all e = absurd all
chart_at w end (x ∷ rows) [] s c all e = absurd all
