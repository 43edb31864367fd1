-- What the releases of sources owe to the terms of their sources.
use Rattle.std.proofs.Common.{◌≡◌, ◌≢◌, ℕ, zero, suc, ◌+◌, ◌-◌, ◌≤◌, ◌<◌, max, leb, ltb, true, List, [], ◌∷◌, arith, refl, sym, ap, inl, inr, Option, Some, None}
use Rattle.std.specs.Prelude.{drop, slice_get, unwrap_or}
use Rattle.std.specs.List.{AllByRecursion}
use Rattle.std.proofs.lemmas.Bool.{cases_Bool, leb-true}
use Rattle.std.proofs.lemmas.Bool.Decides.{nat_tests}
use Rattle.rand_pcg.specs.Lcg.{Lcg}
use Rattle.cbs_lists.proofs.Lists.{AllByRecursion-weaker}
use Rattle.cbsrun_simulate.specs.Drawing.{drawn, up_to, follow, release_of, listed_at, next_nominal, released, released_by, released_by_all, IsListed}
use Rattle.cbsrun_simulate.specs.Merging.{order_merged, ordered_released, put, put_all, merged}
use Rattle.cbsrun_simulate.specs.Releases.{IsInOrder}
use Rattle.cbsrun_simulate.specs.declared.release.Release.{Release}
use Rattle.cbsrun_simulate.specs.declared.terms.SourceTerms.{SourceTerms}
use Rattle.cbsrun_simulate.specs.Released.{HasRanges, IsOfTerms, IsOfSource, IsLater, AreApart, is_single, distance, least_distance}
use Rattle.cbsrun_simulate.proofs.Draws.{drawn_within}
use Rattle.cbsrun_simulate.proofs.Nominal.{next_follows}

-- each release of a source is one of its terms
released_are : (place : ℕ) (t : SourceTerms) (until k : ℕ) (listed : List ℕ) (nominal since : ℕ) (g : Lcg) → 0 < t.units.least → HasRanges t
    → AllByRecursion (λ r. (r.source ≡ place) × IsOfTerms until t r) (released place t until k listed nominal since g)
released_are place t until zero listed nominal since g some ranges = tt
released_are place t until (suc k) listed nominal since g some ranges =
    let u = drawn t.units g in
    let o = drawn t.overrun u.1 in
    let j = drawn (up_to t.jitter) o.1 in
    let e = next_nominal t.every listed nominal j.1 in
    let tick : ℕ = max since (nominal + j.0) in
    let units = drawn_within t.units g ranges.units in
    let overrun = drawn_within t.overrun u.1 ranges.overrun in
    let least = units.0 in
    elim (cases_Bool (ltb tick until)) [
      | inl y ↦ rw y (
        (refl, record { server = refl; some = omega arith; units = units.1; overrun = overrun.1; early = let lt : tick < until = grind (arith, nat_tests) in lt }),
        released_are place t until k (drop 1 listed) e.0 tick e.1 some ranges,
      )
      | inr n ↦ rw n tt
    ]

-- none comes before the first nominal tick
released_from : (place : ℕ) (t : SourceTerms) (until k : ℕ) (listed : List ℕ) (nominal since from : ℕ) (g : Lcg) → from ≤ nominal
    → follow t.every.least nominal listed ≡ true → AllByRecursion (λ r. from ≤ r.tick) (released place t until k listed nominal since g)
released_from place t until zero listed nominal since from g le follows = tt
released_from place t until (suc k) listed nominal since from g le follows =
    let u = drawn t.units g in
    let o = drawn t.overrun u.1 in
    let j = drawn (up_to t.jitter) o.1 in
    let e = next_nominal t.every listed nominal j.1 in
    let tick : ℕ = max since (nominal + j.0) in
    let next = next_follows t.every listed nominal j.1 follows in
    let later : nominal + t.every.least ≤ e.0 = next.0 in
    elim (cases_Bool (ltb tick until)) [
      | inl y ↦ rw y (let here : from ≤ tick = omega arith in here, released_from place t until k (drop 1 listed) e.0 tick from e.1 (omega arith) next.1)
      | inr n ↦ rw n tt
    ]

-- the releases of a source are as far apart as this: one comes at most the jitter later than its nominal tick, and the
-- next not before its own
released_spaced : (gap : ℕ → ℕ) (place : ℕ) (t : SourceTerms) (until k : ℕ) (listed : List ℕ) (nominal since : ℕ) (g : Lcg)
    → gap place ≡ t.every.least - t.jitter → t.jitter ≤ t.every.least → HasRanges t → since ≤ nominal + t.jitter
    → follow t.every.least nominal listed ≡ true → AreApart gap (released place t until k listed nominal since g)
released_spaced gap place t until zero listed nominal since g is little ranges le follows = tt
released_spaced gap place t until (suc k) listed nominal since g is little ranges le follows =
    let u = drawn t.units g in
    let o = drawn t.overrun u.1 in
    let j = drawn (up_to t.jitter) o.1 in
    let e = next_nominal t.every listed nominal j.1 in
    let tick : ℕ = max since (nominal + j.0) in
    let rest = released place t until k (drop 1 listed) e.0 tick e.1 in
    let next = next_follows t.every listed nominal j.1 follows in
    let least : nominal + t.every.least ≤ e.0 = next.0 in
    let most : j.0 ≤ t.jitter = (drawn_within (up_to t.jitter) o.1 (omega arith)).1 in
    let r = release_of place t tick u.0 o.0 in
    let later : AllByRecursion (IsLater gap r) rest =
    AllByRecursion-weaker (λ q. e.0 ≤ q.tick) (IsLater gap r) rest
    (released_from place t until k (drop 1 listed) e.0 tick e.0 e.1 (omega arith) next.1) (λ q h same. omega arith) in
    elim (cases_Bool (ltb tick until)) [
      | inl y ↦ rw y (later, released_spaced gap place t until k (drop 1 listed) e.0 tick e.1 is little ranges (omega arith) next.1)
      | inr n ↦ rw n tt
    ]

-- a source that releases one job at most has no more to release
single_jobs : (jobs : Option ℕ) (until : ℕ) → is_single jobs ≡ true → unwrap_or jobs until ≤ 1
single_jobs None until h = cc
single_jobs (Some n) until h = leb-true n 1 h

-- one release at most is as far from the next as may be
single_spaced : (gap : ℕ → ℕ) (place : ℕ) (t : SourceTerms) (until k : ℕ) (listed : List ℕ) (nominal since : ℕ) (g : Lcg) → k ≤ 1
    → AreApart gap (released place t until k listed nominal since g)
single_spaced gap place t until zero listed nominal since g few = tt
single_spaced gap place t until (suc zero) listed nominal since g few =
    let tick : ℕ = max since (nominal + (drawn (up_to t.jitter) (drawn t.overrun (drawn t.units g).1).1).0) in
    elim (cases_Bool (ltb tick until)) [ inl y ↦ rw y (tt, tt) | inr n ↦ rw n tt ]
single_spaced gap place t until (suc (suc k)) listed nominal since g few = absurd (omega arith)

-- the releases of a source are its least distance apart
released_apart : (gap : ℕ → ℕ) (place : ℕ) (t : SourceTerms) (listed : List ℕ) (until seed : ℕ) → gap place ≡ distance t
    → t.jitter ≤ t.every.least → HasRanges t → IsListed t listed → AreApart gap (released_by place t listed until seed)
released_apart gap place t listed until seed is little ranges follows = elim (cases_Bool (is_single t.jobs)) [
  | inl y ↦ single_spaced gap place t until (unwrap_or t.jobs until) (drop 1 listed) t.first 0 _ (single_jobs t.jobs until y)
  | inr n ↦ released_spaced gap place t until (unwrap_or t.jobs until) (drop 1 listed) t.first 0 _ (rw n at is) little ranges (omega arith) follows
]

-- what holds of a release and of others holds of all, with the release in its place
all_put : (P : Release → Type 0) (r : Release) (qs : List Release) → P r → AllByRecursion P qs → AllByRecursion P (put r qs)
all_put P r [] p all = (p, tt)
all_put P r (q ∷ qs) p all = elim (cases_Bool (leb r.tick q.tick)) [ inl t ↦ rw t (p, all) | inr f ↦ rw f (all.0, all_put P r qs p all.1) ]

all_put_all : (P : Release → Type 0) (rs qs : List Release) → AllByRecursion P rs → AllByRecursion P qs → AllByRecursion P (put_all rs qs)
all_put_all P [] qs some all = all
all_put_all P (r ∷ rs) qs some all = all_put P r (put_all rs qs) some.0 (all_put_all P rs qs some.1 all)

-- a release before all others of its source stays before them
apart_put : (gap : ℕ → ℕ) (r : Release) (qs : List Release) → 0 < gap r.source → AllByRecursion (IsLater gap r) qs → AreApart gap qs → AreApart gap (put r qs)
apart_put gap r [] some later apart = (tt, tt)
apart_put gap r (q ∷ qs) some later apart = elim (cases_Bool (leb r.tick q.tick)) [
  | inl t ↦ rw t (later, apart)
  | inr f ↦
      let before : q.tick < r.tick = grind (arith, nat_tests) in
      rw f (
        all_put (IsLater gap q) r qs (λ same. let h = later.0 (sym same) in absurd (omega arith)) apart.0,
        apart_put gap r qs some later.1 apart.1,
      )
]

-- the releases of one source more, none of which are among the others
apart_put_all : (gap : ℕ → ℕ) (place : ℕ) (rs qs : List Release) → 0 < gap place → AllByRecursion (λ r. r.source ≡ place) rs
    → AllByRecursion (λ q. q.source ≢ place) qs → AreApart gap rs → AreApart gap qs → AreApart gap (put_all rs qs)
apart_put_all gap place [] qs some own others apart rest = rest
apart_put_all gap place (r ∷ rs) qs some own others apart rest =
    let here = own.0 in
    let far = AllByRecursion-weaker (λ q. q.source ≢ place) (IsLater gap r) qs others (λ q ne same. absurd (ne (omega arith))) in
    apart_put gap r (put_all rs qs) (rw here some) (all_put_all (IsLater gap r) rs qs apart.0 far)
    (apart_put_all gap place rs qs some own.1 others apart.1 rest)

-- each of all releases is one of a source
pub merged_are : (until seed first : ℕ) (listed : List (List ℕ)) (ts : List SourceTerms) → AllByRecursion (λ t. (0 < t.units.least) × HasRanges t) ts
    → AllByRecursion (IsOfSource until first ts) (merged (released_by_all first ts listed until seed))
merged_are until seed first listed [] lawful = tt
merged_are until seed first listed (t ∷ ts) lawful =
    let mine = released_by first t (listed_at listed first) until seed in
    let rest = merged (released_by_all (first + 1) ts listed until seed) in
    let here : AllByRecursion (λ r. (r.source ≡ first) × IsOfTerms until t r) mine =
    released_are first t until _ _ t.first 0 _ lawful.0.0 lawful.0.1 in
    let own = AllByRecursion-weaker (λ r. (r.source ≡ first) × IsOfTerms until t r) (IsOfSource until first (t ∷ ts)) mine here
    (λ r h. let at = h.0 in record { place = 0; source = omega arith; terms = t; stands = refl; is = h.1 }) in
    let others = AllByRecursion-weaker (IsOfSource until (first + 1) ts) (IsOfSource until first (t ∷ ts)) rest
    (merged_are until seed (first + 1) listed ts lawful.1)
    (λ r h. let at = h.source in record { place = suc h.place; source = omega arith; terms = h.terms; stands = h.stands; is = h.is }) in
    all_put_all (IsOfSource until first (t ∷ ts)) mine rest own others

-- there is a least distance
pub distance_some : (t : SourceTerms) → t.jitter < t.every.least → 0 < distance t
distance_some t less = elim (cases_Bool (is_single t.jobs)) [ inl y ↦ rw y (omega arith) | inr n ↦ rw n (omega arith) ]

-- any two of all releases that are of one source are its least distance apart
pub merged_apart : (gap : ℕ → ℕ) (until seed first : ℕ) (listed : List (List ℕ)) (ts : List SourceTerms)
    → AllByRecursion (λ t. (0 < t.units.least) × HasRanges t) ts → AllByRecursion (λ t. t.jitter < t.every.least) ts
    → ((j : ℕ) (t : SourceTerms) → slice_get ts j ≡ Some t → gap (first + j) ≡ distance t)
    → ((j : ℕ) (t : SourceTerms) → slice_get ts j ≡ Some t → IsListed t (listed_at listed (first + j)))
    → AreApart gap (merged (released_by_all first ts listed until seed))
merged_apart gap until seed first listed [] lawful little is follows = tt
merged_apart gap until seed first listed (t ∷ ts) lawful little is follows =
    let z : first + 0 ≡ first = omega arith in
    let here : gap first ≡ distance t = rw z at (is 0 t refl) in
    let mine : IsListed t (listed_at listed first) = rw z at (follows 0 t refl) in
    let positive = distance_some t little.0 in
    let own_releases = released_by first t (listed_at listed first) until seed in
    let rest = merged (released_by_all (first + 1) ts listed until seed) in
    let own = AllByRecursion-weaker (λ r. (r.source ≡ first) × IsOfTerms until t r) (λ r. r.source ≡ first) own_releases
    (released_are first t until _ _ t.first 0 _ lawful.0.0 lawful.0.1) (λ r h. h.0) in
    let others = AllByRecursion-weaker (IsOfSource until (first + 1) ts) (λ q. q.source ≢ first) rest (merged_are until seed (first + 1) listed ts lawful.1)
    (λ r h e. let at = h.source in absurd (omega arith)) in
    apart_put_all gap first own_releases rest (omega arith) own others
    (released_apart gap first t (listed_at listed first) until seed here (let less = little.0 in omega arith) lawful.0.1 mine)
    (merged_apart gap until seed (first + 1) listed ts lawful.1 little.1
    (λ j u e. let n : first + 1 + j ≡ first + suc j = omega arith in rw n (is (suc j) u e))
    (λ j u e. let n : first + 1 + j ≡ first + suc j = omega arith in rw n (follows (suc j) u e)))

-- the least distance of a source, by its place
pub least_at : (ts : List SourceTerms) (j : ℕ) (t : SourceTerms) → slice_get ts j ≡ Some t → least_distance ts j ≡ distance t
least_at [] j t e = cc
least_at (u ∷ ts) zero t e = let same : u ≡ t = cc in ap distance same
least_at (u ∷ ts) (suc j) t e = least_at ts j t e

-- the releases of each source are in order
pub each_ordered : (until seed first : ℕ) (listed : List (List ℕ)) (ts : List SourceTerms)
    → AllByRecursion (IsInOrder 0) (released_by_all first ts listed until seed)
each_ordered until seed first listed [] = tt
each_ordered until seed first listed (t ∷ ts) =
    (ordered_released first t until _ _ t.first 0 _, each_ordered until seed (first + 1) listed ts)

-- so are all releases
pub all_in_order : (until seed first : ℕ) (listed : List (List ℕ)) (ts : List SourceTerms)
    → IsInOrder 0 (merged (released_by_all first ts listed until seed))
all_in_order until seed first listed ts = order_merged 0 (released_by_all first ts listed until seed) (each_ordered until seed first listed ts)
