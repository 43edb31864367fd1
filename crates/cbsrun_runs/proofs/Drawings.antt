-- What is drawn of servers, one after another.
use Rattle.std.proofs.Common.{◌≡◌, ◌∙◌, ◌<◌, ℕ, zero, suc, ◌+◌, List, [], ◌∷◌, ◌++◌, length, map, take, ap, arith, refl, sym, subst, Some}
use Rattle.std.specs.Prelude.{get_or, slice_get}
use Rattle.std.proofs.lemmas.List.{map-append, take_more}
use Rattle.cbsrun_chart.proofs.Rows.{found}
use Rattle.cbsrun_chart.specs.Charts.{Kept, IsChart, kept_seen, new_kept}
use Rattle.cbsrun_chart.proofs.Bars.{rows_seen}
use Rattle.cbsrun_chart.specs.declared.chart.Chart.{Chart}
use Rattle.cbsrun_chart.specs.declared.picture.Picture.{Picture}
use Rattle.cbsrun_runs.specs.Runs.{Shown, SameServers, IsChartPicture}
use Rattle.cbsrun_window.specs.declared.window.Window.{Window}
use Rattle.cbs_rate.specs.Rate.{Rate}
use Rattle.cbsrun_events.specs.declared.seen.Seen.{Seen}

-- one more of the first elements
taken : {B : Type 0} (ys : List B) (i : ℕ) (y : B) → slice_get ys i ≡ Some y → take (i + 1) ys ≡ take i ys ++ y ∷ []
taken ys i y is = let here = found ys i y y (sym is) in take_more ys i y here.0 ∙ ap (λ x. take i ys ++ x ∷ []) here.1

-- one element more, of what stands at a place
pub map_more : {A B : Type 0} (f : A → B) (xs : List A) (ys : List B) (i : ℕ) (x : A) → map f xs ≡ take i ys → slice_get ys i ≡ Some (f x)
    → map f (xs ++ x ∷ []) ≡ take (i + 1) ys
map_more f xs ys i x so_far is = map-append f xs (x ∷ []) ∙ (ap (λ zs. zs ++ f x ∷ []) so_far ∙ sym (taken ys i (f x) is))

-- what is collected is of the window that it was made for
pub kept_window : (w : Window) (rates : List Rate) (seen : List Seen) (k : Kept) → k ≡ kept_seen (new_kept w rates) seen → k.window ≡ w
kept_window w rates seen k is = ap (λ (k : Kept). k.window) is ∙ (rows_seen w rates seen).window

-- what is collected of the steps of a run makes its chart
pub chart_is : (w : Window) (rates : List Rate) (end until : ℕ) (seen : List Seen) (k : Kept) (c : Chart) → k ≡ kept_seen (new_kept w rates) seen → end ≡ until
    → ((rs : List Rate) (steps : List Seen) → k ≡ kept_seen (new_kept k.window rs) steps → IsChart rs end steps c) → IsChart rates until seen c
chart_is w rates end until seen k c kept at shows =
    let own : k ≡ kept_seen (new_kept k.window rates) seen =
    subst (λ (v : Window). k ≡ kept_seen (new_kept v rates) seen) (sym (kept_window w rates seen k kept)) kept in
    subst (λ (n : ℕ). IsChart rates n seen c) at (shows rates seen own)

-- what stands at a place, as a function makes it
pub at_of_map : {A B : Type 0} (f : A → B) (xs : List A) (i : ℕ) (x : A) → i < length xs → x ≡ get_or xs i x → slice_get (map f xs) i ≡ Some (f x)
at_of_map f [] i x lt is = absurd (omega arith)
at_of_map f (y ∷ xs) zero x lt is = rw is refl
at_of_map f (y ∷ xs) (suc i) x lt is = at_of_map f xs i x (omega arith) is

-- a picture of a chart of a run is one of each run with the same servers
pub picture_same : (name : List ℕ) (a b : Shown) (c : Chart) (p : Picture) → SameServers a b → IsChartPicture name b c p → IsChartPicture name a c p
picture_same name a b c p same h = let k = rw same at h in record {
  file = k.file;
  reserved = k.reserved;
  window = k.window;
  end = k.end;
  tick = k.tick;
  idle = k.idle;
  others = k.others;
  names = k.names;
  modes = k.modes;
  reservations = k.reservations;
  charts = k.charts;
}
