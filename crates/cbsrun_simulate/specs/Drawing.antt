-- Numbers drawn by a generator, and the releases of a source that they give.
use Rattle.std.specs.Prelude.{◌≡◌, ℕ, zero, suc, ◌+◌, ◌-◌, ◌*◌, ◌/◌, ◌^◌, ◌<◌, ◌≤◌, max, ltb, leb, Bool, true, ◌&&◌, if◌then◌else◌}
use Rattle.std.specs.Prelude.{List, [], ◌∷◌, drop, get_or, slice_get, unwrap_or, Some}
use Rattle.cbs_rate.specs.Limits.{most_units}
use Rattle.cbs_rules.specs.Rules.{clock_end}
use Rattle.rand_pcg.specs.Lcg.{Lcg, started, increment_of}
use Rattle.rand_pcg.specs.Pcg.{pcg64, multiplier_128}
use Rattle.cbsrun_simulate.specs.Bounds.{Bounds}
use Rattle.cbsrun_simulate.specs.declared.release.Release.{Release}
use Rattle.cbsrun_simulate.specs.declared.terms.SourceTerms.{SourceTerms}

-- a number drawn from a range, and the generator after it. A word of 64 bits, times the count of numbers, over 2^64, is
-- added to the least number. For a range of one number nothing is drawn
abbrev pub drawn : Bounds → Lcg → ℕ × Lcg
drawn r g = if ltb r.least r.greatest then (r.least + (pcg64 g).0 * (r.greatest - r.least + 1) / 2 ^ 64, (pcg64 g).1) else (r.least, g)

-- the numbers from 0 to a greatest one
abbrev pub up_to : ℕ → Bounds
up_to greatest = record { least = 0; greatest = greatest }

-- terms within their limits: 1 to 1000000 units, 1 to 10^12 ticks from one nominal tick to the next, and a jitter that
-- is less than the least of these
pub record IsLawful (t : SourceTerms) : Type 0 where
  pub some_units : 0 < t.units.least
  pub few_units : t.units.greatest ≤ most_units
  pub some_ticks : 0 < t.every.least
  pub few_ticks : t.every.greatest ≤ clock_end
  pub little_jitter : t.jitter < t.every.least

-- listed nominal ticks that follow one: each lies at least so many ticks after the one before it, and none after the
-- clock's end
abbrev pub follow : ℕ → ℕ → List ℕ → Bool
follow gap nominal [] = true
follow gap nominal (n ∷ ns) = leb (nominal + gap) n && (leb n clock_end && follow gap n ns)

-- the ticks that are listed of a source follow its first one, each at least the least `every` after the one before it
abbrev pub IsListed : SourceTerms → List ℕ → Type 0
IsListed t listed = follow t.every.least t.first (drop 1 listed) ≡ true

-- the ticks that are listed of source i, none if they are drawn
abbrev pub listed_at : List (List ℕ) → ℕ → List ℕ
listed_at listed i = get_or listed i []

-- so are the ticks that are listed of each source
abbrev pub AreListed : List SourceTerms → List (List ℕ) → Type 0
AreListed ts listed = (i : ℕ) (t : SourceTerms) → slice_get ts i ≡ Some t → IsListed t (listed_at listed i)

-- the release of a source at a place, at a tick
abbrev pub release_of : ℕ → SourceTerms → ℕ → ℕ → ℕ → Release
release_of place t tick units overrun =
    record { tick = tick; source = place; server = t.server; units = units; overrun = overrun; within = t.within }

-- the nominal tick after one, and the generator after it: the next tick that is listed, or, if none is, so many ticks
-- later as are drawn
abbrev pub next_nominal : Bounds → List ℕ → ℕ → Lcg → ℕ × Lcg
next_nominal every [] nominal g = (nominal + (drawn every g).0, (drawn every g).1)
next_nominal every (n ∷ ns) nominal g = (n, g)

-- at most k releases of a source, all before the tick `until`. The next job has a nominal tick, those that are listed
-- follow it, and it comes at most the jitter later, but not before the tick `since`. For each, the units are drawn, then
-- the overrun, then by how much it comes later, and then the ticks to the next nominal tick, unless that is listed
abbrev pub released : ℕ → SourceTerms → ℕ → ℕ → List ℕ → ℕ → ℕ → Lcg → List Release
released place t until zero listed nominal since g = []
released place t until (suc k) listed nominal since g =
    let u = drawn t.units g in
    let o = drawn t.overrun u.1 in
    let j = drawn (up_to t.jitter) o.1 in
    let e = next_nominal t.every listed nominal j.1 in
    let tick = max since (nominal + j.0) in
    if ltb tick until then release_of place t tick u.0 o.0 ∷ released place t until k (drop 1 listed) e.0 tick e.1 else []

-- at most k releases of a source with these listed ticks, of which the first is its first one. Its generator has the
-- seed as its state and the place as its stream
abbrev pub released_from : ℕ → SourceTerms → List ℕ → ℕ → ℕ → ℕ → List Release
released_from place t listed until k seed =
    released place t until k (drop 1 listed) t.first 0 (started 128 multiplier_128 seed (increment_of 128 place))

-- the releases of a source. Without a count of jobs there are as many as fit before the tick `until`. At least one tick
-- lies between two nominal ticks, so there are at most `until` of them
abbrev pub released_by : ℕ → SourceTerms → List ℕ → ℕ → ℕ → List Release
released_by place t listed until seed = released_from place t listed until (unwrap_or t.jobs until) seed

-- the state of a source: the listed ticks that follow, how many jobs are left, the nominal tick of the next one, when it
-- comes, its units and overrun, and the generator for later draws
pub record Cursor : Type 0 where
  pub place : ℕ
  pub terms : SourceTerms
  pub listed : List ℕ
  pub until : ℕ
  pub left : ℕ
  pub nominal : ℕ
  pub tick : ℕ
  pub units : ℕ
  pub overrun : ℕ
  pub draws : Lcg

-- the releases that the source has left, if k jobs are left
abbrev pub pending_from : ℕ → Cursor → List Release
pending_from zero c = []
pending_from (suc k) c =
    let e = next_nominal c.terms.every c.listed c.nominal c.draws in
    if ltb c.tick c.until
    then release_of c.place c.terms c.tick c.units c.overrun ∷ released c.place c.terms c.until k (drop 1 c.listed) e.0 c.tick e.1
    else []

-- the releases that the source has left
abbrev pub pending : Cursor → List Release
pending c = pending_from c.left c

-- the releases of several sources, at the places from i on
abbrev pub released_by_all : ℕ → List SourceTerms → List (List ℕ) → ℕ → ℕ → List (List Release)
released_by_all i [] listed until seed = []
released_by_all i (t ∷ ts) listed until seed = released_by i t (listed_at listed i) until seed ∷ released_by_all (i + 1) ts listed until seed
