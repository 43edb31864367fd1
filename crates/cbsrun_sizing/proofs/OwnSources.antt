-- The sources of one server: their places among its streams, and what they may overrun.
use Rattle.std.proofs.Common.{◌≡◌, ◌≢◌, Bool, ℕ, zero, suc, ◌+◌, ◌≤◌, ◌<◌, true, false, eqb, List, [], ◌∷◌, length, map, take, get_or, arith, refl, sym, ap, ◌∙◌, inl}
use Rattle.std.proofs.Common.{inr, Some}
use Rattle.std.specs.Prelude.{slice_get, option_map, max, if◌then◌else◌}
use Rattle.std.specs.List.{All, AllByRecursion, filter, fold}
use Rattle.std.proofs.lemmas.Bool.{cases_Bool, cases_lt}
use Rattle.std.proofs.lemmas.Bool.Decides.{nat_tests}
use Rattle.std.proofs.lemmas.List.Elements.{All-nil, All-cons, All-weaker}
use Rattle.std.proofs.lemmas.Nat.{mul-le}
use Rattle.std.proofs.lemmas.Option.{slice_get-map}
use Rattle.cbs_rate.specs.Rate.{Rate}
use Rattle.cbs_rate.specs.Limits.{longest_period}
use Rattle.cbs_guarantee.specs.Sources.{ticks_of, stream_of, streams_of}
use Rattle.cbsrun_loads.specs.Loads.{IsSource}
use Rattle.cbsrun_simulate.specs.Releases.{IsInOrder}
use Rattle.cbsrun_simulate.specs.Merging.{order_from}
use Rattle.cbsrun_simulate.specs.declared.release.Release.{Release}
use Rattle.cbsrun_simulate.specs.declared.terms.SourceTerms.{SourceTerms}
use Rattle.cbsrun_sizing.specs.Asked.{most_ticks}
use Rattle.cbsrun_sizing.specs.ServerLoads.{held, at_most, sources_of, AreShort}
use Rattle.cbsrun_sizing.proofs.KeptMoves.{AreNumbered}

module _ (s : ℕ) where
  -- the sources of server s
  abbrev pub own : List SourceTerms → List SourceTerms
  own ts = filter (λ t. eqb t.server s) ts

  -- the place of a source among those of server s
  abbrev pub place_of : List SourceTerms → ℕ → ℕ
  place_of ts i = length (own (take i ts))

  -- the source is one of server s
  pub record IsOwnSource (ts : List SourceTerms) (i : ℕ) : Type 0 where
    pub terms : SourceTerms
    pub stands : slice_get ts i ≡ Some terms
    pub server : terms.server ≡ s

  is_own : (t : SourceTerms) → t.server ≡ s → eqb t.server s ≡ true
  is_own t same = grind (arith, nat_tests)

  pub own_at : (ts : List SourceTerms) (i : ℕ) (t : SourceTerms) → slice_get ts i ≡ Some t → t.server ≡ s → slice_get (own ts) (place_of ts i) ≡ Some t
  own_at [] i t e same = cc
  own_at (u ∷ ts) zero t e same =
      let is : u ≡ t = cc in
      let y : eqb u.server s ≡ true = rw is (is_own t same) in
      rw y e
  own_at (u ∷ ts) (suc i) t e same = elim (cases_Bool (eqb u.server s)) [ inl y ↦ rw y (own_at ts i t e same) | inr n ↦ rw n (own_at ts i t e same) ]

  -- its stream stands at that place
  pub stream_at : (rate : Rate) (ts : List SourceTerms) (i : ℕ) (t : SourceTerms) → slice_get ts i ≡ Some t → t.server ≡ s
      → slice_get (streams_of rate (sources_of s ts)) (place_of ts i) ≡ Some (stream_of rate (at_most t))
  stream_at rate ts i t e same =
      slice_get-map (stream_of rate) (map at_most (own ts)) (place_of ts i)
      ∙ ap (option_map (stream_of rate)) (slice_get-map at_most (own ts) (place_of ts i) ∙ ap (option_map at_most) (own_at ts i t e same))

  -- a later source of the server has a later place
  place_grows : (ts : List SourceTerms) (i j : ℕ) (t : SourceTerms) → slice_get ts i ≡ Some t → t.server ≡ s → i < j → place_of ts i < place_of ts j
  place_grows [] i j t e same lt = cc
  place_grows (u ∷ ts) i zero t e same lt = absurd (omega arith)
  place_grows (u ∷ ts) zero (suc j) t e same lt =
      let is : u ≡ t = cc in
      let y : eqb u.server s ≡ true = rw is (is_own t same) in
      rw y (omega arith)
  place_grows (u ∷ ts) (suc i) (suc j) t e same lt =
      let rest = place_grows ts i j t e same (omega arith) in
      elim (cases_Bool (eqb u.server s)) [ inl y ↦ rw y (omega arith) | inr n ↦ rw n rest ]

  -- so no two have one place
  pub places_apart : (ts : List SourceTerms) (i j : ℕ) → IsOwnSource ts i → IsOwnSource ts j → place_of ts i ≡ place_of ts j → i ≡ j
  places_apart ts i j a b e = elim (cases_lt i j) [
    | inl lt ↦ let h = place_grows ts i j a.terms a.stands a.server lt in absurd (omega arith)
    | inr ge ↦ elim (cases_lt j i) [
      | inl lt ↦ let h = place_grows ts j i b.terms b.stands b.server lt in absurd (omega arith)
      | inr le ↦ omega arith
    ]
  ]

  -- a server none of whose sources overruns is charged nothing
  pub none_more : (ts : List SourceTerms) (most : ℕ) → AllByRecursion (λ t. held t.overrun.greatest ≡ 0) (own ts)
      → fold (λ most t. if eqb t.server s then max most t.overrun.greatest else most) most ts ≡ most
  none_more [] most none = refl
  none_more (u ∷ ts) most none = elim (cases_Bool (eqb u.server s)) [
    | inl y ↦
        let all : AllByRecursion (λ t. held t.overrun.greatest ≡ 0) (u ∷ own ts) = rw y at none in
        let zero_here = all.0 in
        let same : max most u.overrun.greatest ≡ most = omega arith in
        rw y (none_more ts (max most u.overrun.greatest) all.1 ∙ same)
    | inr n ↦ rw n (none_more ts most (rw n at none))
  ]

  -- the most that a server is charged grows with its sources
  charged_from : (ts : List SourceTerms) (most : ℕ) → most ≤ fold (λ most t. if eqb t.server s then max most t.overrun.greatest else most) most ts
  charged_from [] most = omega arith
  charged_from (u ∷ ts) most = elim (cases_Bool (eqb u.server s)) [
    | inl y ↦ let rest = charged_from ts (max most u.overrun.greatest) in rw y (omega arith)
    | inr n ↦ rw n (charged_from ts most)
  ]

  -- it is at least what any of them may overrun
  pub charged_at : (ts : List SourceTerms) (i most : ℕ) (t : SourceTerms) → slice_get ts i ≡ Some t → t.server ≡ s
      → t.overrun.greatest ≤ fold (λ most t. if eqb t.server s then max most t.overrun.greatest else most) most ts
  charged_at [] i most t e same = cc
  charged_at (u ∷ ts) zero most t e same =
      let is : u ≡ t = cc in
      let y : eqb u.server s ≡ true = rw is (is_own t same) in
      let rest = charged_from ts (max most u.overrun.greatest) in
      let g = ap (λ (v : SourceTerms). v.overrun.greatest) is in
      rw y (omega arith)
  charged_at (u ∷ ts) (suc i) most t e same = elim (cases_Bool (eqb u.server s)) [
    | inl y ↦ rw y (charged_at ts i (max most u.overrun.greatest) t e same)
    | inr n ↦ rw n (charged_at ts i most t e same)
  ]

  -- and at most what all of them may overrun at most
  pub charged_most : (ts : List SourceTerms) (most bound : ℕ) → most ≤ bound → AllByRecursion (λ t. t.overrun.greatest ≤ bound) (own ts)
      → fold (λ most t. if eqb t.server s then max most t.overrun.greatest else most) most ts ≤ bound
  charged_most [] most bound le all = le
  charged_most (u ∷ ts) most bound le all = elim (cases_Bool (eqb u.server s)) [
    | inl y ↦
        let both : AllByRecursion (λ t. t.overrun.greatest ≤ bound) (u ∷ own ts) = rw y at all in
        let here = both.0 in
        rw y (charged_most ts (max most u.overrun.greatest) bound (omega arith) both.1)
    | inr n ↦ rw n (charged_most ts most bound le (rw n at all))
  ]

  -- what holds of each source holds of each of the server's
  pub all_own_sources : (P : SourceTerms → Type 0) (ts : List SourceTerms) → AllByRecursion P ts → AllByRecursion P (own ts)
  all_own_sources P [] all = tt
  all_own_sources P (u ∷ ts) all = elim (cases_Bool (eqb u.server s)) [
    | inl y ↦ rw y (all.0, all_own_sources P ts all.1)
    | inr n ↦ rw n (all_own_sources P ts all.1)
  ]

  -- what another server is charged for one unit passes a release for server s by no more than the most
  pub passed_more : (ts : List SourceTerms) (v most passed : ℕ) → v ≢ s → most ≤ passed
      → fold (λ most t. if eqb t.server v then max most t.overrun.greatest else most) most ts
      ≤ fold (λ most t. if eqb t.server s then most else max most t.overrun.greatest) passed ts
  passed_more [] v most passed ne le = le
  passed_more (u ∷ ts) v most passed ne le = elim (cases_Bool (eqb u.server s)) [
    | inl y ↦
        let other : eqb u.server v ≡ false = no_other u.server v ne y in
        rw (y, other) (passed_more ts v most passed ne le)
    | inr n ↦ elim (cases_Bool (eqb u.server v)) [
      | inl t ↦ rw (n, t) (passed_more ts v (max most u.overrun.greatest) (max passed u.overrun.greatest) ne (omega arith))
      | inr f ↦ rw (n, f) (passed_more ts v most (max passed u.overrun.greatest) ne (omega arith))
    ]
  ]
    where
      no_other : (a v : ℕ) → v ≢ s → eqb a s ≡ true → eqb a v ≡ false
      no_other a v ne y = elim (cases_Bool (eqb a v)) [
        | inl t ↦ let p : a ≡ v = grind (arith, nat_tests) in let q : a ≡ s = grind (arith, nat_tests) in absurd (ne (sym p ∙ q))
        | inr f ↦ f
      ]

  -- the releases of server s
  abbrev pub own_releases : List Release → List Release
  own_releases rs = filter (λ r. eqb r.server s) rs

  -- they are in order
  own_ordered : (from : ℕ) (rs : List Release) → IsInOrder from rs → IsInOrder from (own_releases rs)
  own_ordered from [] order = tt
  own_ordered from (r ∷ rs) order = elim (cases_Bool (eqb r.server s)) [
    | inl y ↦ rw y (order.0, own_ordered r.tick rs order.1)
    | inr n ↦ rw n (order_from from r.tick (own_releases rs) order.0 (own_ordered r.tick rs order.1))
  ]

  module _ (until : ℕ) where
    -- the tick of release q, and `until` after the last
    abbrev pub tick_at : List Release → ℕ → ℕ
    tick_at rs q = get_or (map (λ r. r.tick) rs) q until

    tick_from : (from : ℕ) (rs : List Release) → IsInOrder from rs → AllByRecursion (λ r. r.tick < until) rs → from ≤ until → (q : ℕ) → from ≤ tick_at rs q
    tick_from from [] order early le q = le
    tick_from from (r ∷ rs) order early le zero = order.0
    tick_from from (r ∷ rs) order early le (suc q) =
        let before = early.0 in
        let first = order.0 in
        let rest = tick_from r.tick rs order.1 early.1 (omega arith) q in
        omega arith

    tick_grows : (from : ℕ) (rs : List Release) → IsInOrder from rs → AllByRecursion (λ r. r.tick < until) rs → (p q : ℕ) → p ≤ q
        → tick_at rs p ≤ tick_at rs q
    tick_grows from [] order early p q le = omega arith
    tick_grows from (r ∷ rs) order early zero zero le = omega arith
    tick_grows from (r ∷ rs) order early zero (suc q) le = let before = early.0 in tick_from r.tick rs order.1 early.1 (omega arith) q
    tick_grows from (r ∷ rs) order early (suc p) zero le = absurd (omega arith)
    tick_grows from (r ∷ rs) order early (suc p) (suc q) le = tick_grows r.tick rs order.1 early.1 p q (omega arith)

    all_own : (P : Release → Type 0) (rs : List Release) → AllByRecursion P rs → AllByRecursion P (own_releases rs)
    all_own P [] all = tt
    all_own P (r ∷ rs) all = elim (cases_Bool (eqb r.server s)) [ inl y ↦ rw y (all.0, all_own P rs all.1) | inr n ↦ rw n (all_own P rs all.1) ]

    -- their ticks do not decrease
    pub ticks_grow : (rs : List Release) → IsInOrder 0 rs → AllByRecursion (λ r. r.tick < until) rs → (p q : ℕ) → p ≤ q
        → tick_at (own_releases rs) p ≤ tick_at (own_releases rs) q
    ticks_grow rs order early = tick_grows 0 (own_releases rs) (own_ordered 0 rs order) (all_own (λ r. r.tick < until) rs early)

    -- they are numbered
    pub numbered : (released of place : ℕ → ℕ) (k : ℕ) (rs : List Release) → ((i : ℕ) → released (k + i) ≡ tick_at (own_releases rs) i)
        → ((i : ℕ) → of (k + i) ≡ get_or (map (λ (r : Release). place r.source) (own_releases rs)) i 0) → AreNumbered s released of place k rs
    numbered released of place k [] ticks places = tt
    numbered released of place k (r ∷ rs) ticks places =
        let z : k + 0 ≡ k = omega arith in
        elim (cases_Bool (eqb r.server s)) [
          | inl y ↦
              let a : (i : ℕ) → released (k + i) ≡ tick_at (r ∷ own_releases rs) i = rw y at ticks in
              let b : (i : ℕ) → of (k + i) ≡ get_or (map (λ (r : Release). place r.source) (r ∷ own_releases rs)) i 0 = rw y at places in
              let c : (i : ℕ) → released (k + 1 + i) ≡ tick_at (own_releases rs) i =
              λ i. let n : k + 1 + i ≡ k + suc i = omega arith in rw n (a (suc i)) in
              let d : (i : ℕ) → of (k + 1 + i) ≡ get_or (map (λ (r : Release). place r.source) (own_releases rs)) i 0 =
              λ i. let n : k + 1 + i ≡ k + suc i = omega arith in rw n (b (suc i)) in
              let first : (released k ≡ r.tick) × (of k ≡ place r.source) = (rw z at (a 0), rw z at (b 0)) in
              rw y (λ same. first, numbered released of place (k + 1) rs c d)
          | inr n ↦
              let ne : r.server ≢ s = λ same. let y : eqb r.server s ≡ true = grind (arith, nat_tests) in cc in
              let a : (i : ℕ) → released (k + i) ≡ tick_at (own_releases rs) i = rw n at ticks in
              let b : (i : ℕ) → of (k + i) ≡ get_or (map (λ (r : Release). place r.source) (own_releases rs)) i 0 = rw n at places in
              rw n (λ same. absurd (ne same), numbered released of place k rs a b)
        ]

-- a job of a source of a load takes at most so many ticks, whichever sources are picked
pub own_ticks : (n : ℕ) (picks : SourceTerms → Bool) (sources : List SourceTerms) → All (IsSource n) sources
    → All (λ source. ticks_of source ≤ most_ticks) (map at_most (filter picks sources))
own_ticks n picks [] all = All-nil (λ source. ticks_of source ≤ most_ticks)
own_ticks n picks (t ∷ ts) all =
    let rest = own_ticks n picks ts (λ k d lt. all (suc k) d (omega arith)) in
    elim (cases_Bool (picks t)) [
      | inl y ↦ rw y (All-cons (λ source. ticks_of source ≤ most_ticks) (at_most t) (map at_most (filter picks ts)) (few_ticks t (all 0 t (omega arith))) rest)
      | inr f ↦ rw f rest
    ]
  where
    few_ticks : (t : SourceTerms) → IsSource n t → ticks_of (at_most t) ≤ most_ticks
    few_ticks t is =
        let units = is.lawful.few_units in
        let short = is.short in
        let u : held t.units.greatest ≤ 1000000 = omega arith in
        let o : 1 + held t.overrun.greatest ≤ 1000000001 = omega arith in
        mul-le (held t.units.greatest) (1 + held t.overrun.greatest) 1000000 1000000001 u o

-- no unit of a load overruns by more than the longest period
pub are_short : (n : ℕ) (sources : List SourceTerms) → All (IsSource n) sources → AreShort sources
are_short n sources all = All-weaker (IsSource n) (λ t. t.overrun.greatest ≤ longest_period) (λ t is. is.short) sources all
