-- The releases of several sources, in the order of their ticks, and at one tick in the order of their sources.
use Rattle.std.specs.Prelude.{◌≡◌, ℕ, ◌<◌, leb, if◌then◌else◌, List, [], ◌∷◌, length, drop, slice_get, get_or, Some, ◌≤◌, map, zero, suc, ◌+◌, max, ltb}
use Rattle.cbs_lists.specs.Lists.{changed_at}
use Rattle.cbsrun_simulate.specs.declared.release.Release.{Release}
use Rattle.std.specs.List.{AllByRecursion}
use Rattle.std.proofs.Common.{arith, inl, inr}
use Rattle.std.proofs.lemmas.Bool.{cases_Bool}
use Rattle.std.proofs.lemmas.Bool.Decides.{nat_tests}
use Rattle.cbsrun_simulate.specs.Releases.{IsInOrder}
use Rattle.rand_pcg.specs.Lcg.{Lcg}
use Rattle.cbsrun_simulate.specs.Drawing.{Cursor, drawn, up_to, release_of, next_nominal, released, pending, pending_from}
use Rattle.cbsrun_simulate.specs.declared.terms.SourceTerms.{SourceTerms}

-- a release, put before the first one whose tick is not earlier
abbrev pub put : Release → List Release → List Release
put r [] = r ∷ []
put r (q ∷ qs) = if leb r.tick q.tick then r ∷ q ∷ qs else q ∷ put r qs

-- the releases of a source, each put in its place among others, before those at the same tick
abbrev pub put_all : List Release → List Release → List Release
put_all [] rest = rest
put_all (r ∷ rs) rest = put r (put_all rs rest)

-- all releases of the sources
abbrev pub merged : List (List Release) → List Release
merged [] = []
merged (rs ∷ rss) = put_all rs (merged rss)

-- the first of all releases is r, which is the first of source i. The rest are the releases of the sources without r
pub record IsFirst (rss : List (List Release)) (i : ℕ) (r : Release) : Type 0 where
  pub within : i < length rss
  pub head : slice_get (get_or rss i []) 0 ≡ Some r
  pub first : merged rss ≡ r ∷ merged (changed_at (drop 1) rss i)

-- releases that are in order from a tick on are in order from an earlier tick on
pub order_from : (now later : ℕ) (rs : List Release) → now ≤ later → IsInOrder later rs → IsInOrder now rs
order_from now later [] le order = tt
order_from now later (r ∷ rs) le order = (let h = order.0 in omega arith, order.1)

-- putting a release in its place keeps the order
order_put : (now : ℕ) (r : Release) (qs : List Release) → now ≤ r.tick → IsInOrder now qs → IsInOrder now (put r qs)
order_put now r [] le order = (le, tt)
order_put now r (q ∷ qs) le order = elim (cases_Bool (leb r.tick q.tick)) [
  | inl t ↦ let h : r.tick ≤ q.tick = grind (arith, nat_tests) in rw t (le, (h, order.1))
  | inr f ↦ let h : q.tick ≤ r.tick = grind (arith, nat_tests) in rw f (order.0, order_put q.tick r qs h order.1)
]

-- putting all releases of a source in their places keeps the order
pub order_put_all : (now : ℕ) (rs rest : List Release) → IsInOrder now rs → IsInOrder now rest → IsInOrder now (put_all rs rest)
order_put_all now [] rest order h = h
order_put_all now (r ∷ rs) rest order h = order_put now r (put_all rs rest) order.0 (order_put_all now rs rest (order_from now r.tick rs order.0 order.1) h)

-- merged releases are in order
pub order_merged : (now : ℕ) (rss : List (List Release)) → AllByRecursion (IsInOrder now) rss → IsInOrder now (merged rss)
order_merged now [] each = tt
order_merged now (rs ∷ rss) each = order_put_all now rs (merged rss) each.0 (order_merged now rss each.1)

-- if the releases of every source are in order, those of all sources in a list are
pub all_ordered : {S : Type 0} (coming : S → List Release) → ((it : S) → IsInOrder 0 (coming it)) → (items : List S)
    → AllByRecursion (IsInOrder 0) (map coming items)
all_ordered coming ordered [] = tt
all_ordered coming ordered (x ∷ items) = (ordered x, all_ordered coming ordered items)

pub merged_ordered : {S : Type 0} (coming : S → List Release) → ((it : S) → IsInOrder 0 (coming it)) → (items : List S)
    → IsInOrder 0 (merged (map coming items))
merged_ordered coming ordered items = order_merged 0 (map coming items) (all_ordered coming ordered items)

-- other releases are at the tick of a release or later. With it before them they are in order, and so is the empty list
one_ordered : (until : ℕ) (r : Release) (rs : List Release) → IsInOrder r.tick rs → IsInOrder r.tick (if ltb r.tick until then r ∷ rs else [])
one_ordered until r rs order = elim (cases_Bool (ltb r.tick until)) [ inl y ↦ rw y ((omega arith), order) | inr n ↦ rw n tt ]

-- the releases of a source are at the tick `since` or later, in order
pub ordered_released : (place : ℕ) (t : SourceTerms) (until k : ℕ) (listed : List ℕ) (nominal since : ℕ) (g : Lcg)
    → IsInOrder since (released place t until k listed nominal since g)
ordered_released place t until zero listed nominal since g = tt
ordered_released place t until (suc k) listed nominal since g =
    let u = drawn t.units g in
    let o = drawn t.overrun u.1 in
    let j = drawn (up_to t.jitter) o.1 in
    let e = next_nominal t.every listed nominal j.1 in
    let tick = max since (nominal + j.0) in
    let rest = released place t until k (drop 1 listed) e.0 tick e.1 in
    let r = release_of place t tick u.0 o.0 in
    order_from since tick (if ltb tick until then r ∷ rest else []) (omega arith)
    (one_ordered until r rest (ordered_released place t until k (drop 1 listed) e.0 tick e.1))

-- the releases that a source has left are at its next tick or later, in order
ordered_pending : (k : ℕ) (c : Cursor) → IsInOrder c.tick (pending_from k c)
ordered_pending zero c = tt
ordered_pending (suc k) c =
    let e = next_nominal c.terms.every c.listed c.nominal c.draws in
    let rest = released c.place c.terms c.until k (drop 1 c.listed) e.0 c.tick e.1 in
    one_ordered c.until (release_of c.place c.terms c.tick c.units c.overrun) rest
    (ordered_released c.place c.terms c.until k (drop 1 c.listed) e.0 c.tick e.1)

-- the releases of a source are in order
pub ordered_source : (c : Cursor) → IsInOrder 0 (pending c)
ordered_source c = order_from 0 c.tick (pending c) (omega arith) (ordered_pending c.left c)
