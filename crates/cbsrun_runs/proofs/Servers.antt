-- The reports of servers, one after another.
use Rattle.std.proofs.Common.{◌≡◌, ℕ, zero, suc, ◌+◌, ◌<◌, List, [], ◌∷◌, ◌++◌, length, map, Some, arith, rules, refl, ap, ◌∙◌, subst}
use Rattle.std.specs.List.{range_with_len}
use Rattle.std.specs.Prelude.{get_or, slice_get, string_bytes, IsSome}
use Rattle.std.proofs.lemmas.List.{get_or-map, length-map}
use Rattle.cbs_rate.specs.Rate.{Rate}
use Rattle.cbsrun_figures.specs.Figures.{AreAllFigures, AreFigures, steps_of}
use Rattle.cbsrun_figures.specs.declared.figures.Figures.{Figures}
use Rattle.cbsrun_report_text.specs.declared.report.ServerReport.{ServerReport}
use Rattle.cbsrun_runs.specs.Runs.{Shown, SameServers, IsServerReport}
use Rattle.cbsrun_runs.specs.Tasks.{name_of}
use Rattle.cbsrun_events.specs.declared.seen.Seen.{Seen}

module _ (Is : ℕ → ServerReport → Type 0) where
  -- the reports of the servers from server i on
  abbrev pub EachFrom : ℕ → List ServerReport → Type 0
  EachFrom i [] = Unit {0}
  EachFrom i (r ∷ rs) = Is i r × EachFrom (i + 1) rs

  -- one server more
  pub each_more : (i n : ℕ) (rs : List ServerReport) (r : ServerReport) → EachFrom i rs → n ≡ i + length rs → Is n r → EachFrom i (rs ++ r ∷ [])
  each_more i n [] r each is one = let e : n ≡ i = omega arith in (rw (← e) one, tt)
  each_more i n (x ∷ rs) r each is one = (each.0, each_more (i + 1) n rs r each.1 (omega arith) one)

  -- the report at a place
  each_at : (i : ℕ) (rs : List ServerReport) (s : ℕ) (r : ServerReport) → EachFrom i rs → slice_get rs s ≡ Some r → Is (i + s) r
  each_at i [] s r each e = absurd cc
  each_at i (x ∷ rs) zero r each e =
      let same : x ≡ r = cc in
      let n : i + 0 ≡ i = omega arith in
      rw (n, ← same) each.0
  each_at i (x ∷ rs) (suc s) r each e =
      let n : i + 1 + s ≡ i + suc s = omega arith in
      rw (← n) (each_at (i + 1) rs s r each.1 e)

  pub each_is : (rs : List ServerReport) (s : ℕ) (r : ServerReport) → EachFrom 0 rs → slice_get rs s ≡ Some r → Is s r
  each_is rs s r each e = let n : 0 + s ≡ s = omega arith in rw n at (each_at 0 rs s r each e)

-- what is found at a place stands there
found : {X : Type 0} (xs : List X) (i : ℕ) (x d : X) → Some x ≡ slice_get xs i → (i < length xs) × (get_or xs i d ≡ x)
found [] i x d e = absurd cc
found (y ∷ xs) zero x d e = let same : y ≡ x = cc in (omega arith, same)
found (y ∷ xs) (suc i) x d e = let h = found xs i x d e in (let lt = h.0 in omega arith, h.1)

-- the figures of one server among those of all
figures_at : (rates : List Rate) (now : ℕ) (seen : List Seen) (fs : List Figures) (s : ℕ) (r : ServerReport)
    → AreAllFigures (map (λ rate. rate.budget) rates) now seen fs → Some r.reservation ≡ slice_get rates s → slice_get fs s ≡ Some r.figures
    → AreFigures r.reservation.budget now (steps_of s seen) r.figures
figures_at rates now seen fs s r all reservation figures =
    let here = found rates s r.reservation r.reservation reservation in
    let budget : get_or (map (λ (rate : Rate). rate.budget) rates) s 0 ≡ r.reservation.budget =
    get_or-map (λ (rate : Rate). rate.budget) rates s r.reservation 0 here.0 ∙ ap (λ x. x.budget) here.1 in
    subst (λ b. AreFigures b now (steps_of s seen) r.figures) budget (all.each s r.figures figures)

-- the figures of one server make its report
pub server_is : (r : Shown) (s : ℕ) (t : ServerReport) (fs : List Figures) → AreAllFigures (map (λ rate. rate.budget) r.plan.rates) r.end r.seen fs
    → Some (string_bytes t.name) ≡ slice_get r.names s → Some t.mode ≡ slice_get r.modes s → Some t.reservation ≡ slice_get r.plan.rates s
    → t.within ≡ r.within s → slice_get fs s ≡ Some t.figures → IsServerReport r s t
server_is r s t fs all name mode reservation within figures = record {
  name = name;
  mode = mode;
  reservation = reservation;
  within = within;
  figures = figures_at r.plan.rates r.end r.seen fs s t all reservation figures;
}

-- what is told of a server of a run is told of it in each run with the same servers
pub server_same : (a b : Shown) (s : ℕ) (t : ServerReport) (fs : List Figures) → SameServers a b
    → AreAllFigures (map (λ rate. rate.budget) a.plan.rates) a.end a.seen fs
    → Some (string_bytes t.name) ≡ slice_get b.names s → Some t.mode ≡ slice_get b.modes s → Some t.reservation ≡ slice_get b.plan.rates s
    → t.within ≡ b.within s → slice_get fs s ≡ Some t.figures → IsServerReport a s t
server_same a b s t fs same all name mode reservation within figures =
    server_is a s t fs all (name ∙ ap (λ (r : Shown). slice_get r.names s) same) (mode ∙ ap (λ (r : Shown). slice_get r.modes s) same)
    (reservation ∙ ap (λ (r : Shown). slice_get r.plan.rates s) same) (within ∙ ap (λ (r : Shown). r.within s) same) figures

-- at a place of the list something stands
pub stands : {X : Type 0} (xs : List X) (i : ℕ) → i < length xs → IsSome (slice_get xs i)
stands [] i lt = absurd (omega arith)
stands (x ∷ xs) zero lt = search rules
stands (x ∷ xs) (suc i) lt = stands xs i (omega arith)

-- what stands at a place is found there
pub some_at : {X : Type 0} (xs : List X) (i : ℕ) (x : X) → i < length xs → x ≡ get_or xs i x → slice_get xs i ≡ Some x
some_at [] i x lt is = absurd (omega arith)
some_at (y ∷ xs) zero x lt is = rw is refl
some_at (y ∷ xs) (suc i) x lt is = some_at xs i x (omega arith) is

-- there are as many figures as servers
pub figure_count : (rates : List Rate) (now : ℕ) (seen : List Seen) (fs : List Figures) → AreAllFigures (map (λ rate. rate.budget) rates) now seen fs
    → length fs ≡ length rates
figure_count rates now seen fs all = all.count ∙ length-map rates (λ (rate : Rate). rate.budget)

-- the names of the servers of a task file, from one number on
named_from : (n from s : ℕ) → s < n → slice_get (map name_of (range_with_len from n)) s ≡ Some (name_of (from + s))
named_from zero from s lt = absurd (omega arith)
named_from (suc n) from zero lt = let z : from + 0 ≡ from = omega arith in rw z refl
named_from (suc n) from (suc s) lt = let z : from + suc s ≡ from + 1 + s = omega arith in rw z (named_from n (from + 1) s (omega arith))

-- the name of server s
pub named_at : (n s : ℕ) (name : List ℕ) → s < n → name ≡ name_of s → Some name ≡ slice_get (map name_of (range_with_len 0 n)) s
named_at n s name lt is =
    let z : 0 + s ≡ s = omega arith in
    let here : slice_get (map name_of (range_with_len 0 n)) s ≡ Some (name_of s) = rw z at (named_from n 0 s lt) in
    rw (is, here) refl
