-- What each release owes to the terms of its source.
use Rattle.std.specs.Prelude.{◌≡◌, ℕ, ◌+◌, ◌-◌, ◌≤◌, ◌<◌, leb, Bool, false, if◌then◌else◌, List, [], ◌∷◌, map, get_or, slice_get, Option, Some, None}
use Rattle.std.specs.List.{AllByRecursion}
use Rattle.cbs_rate.specs.Limits.{longest_period}
use Rattle.cbsrun_simulate.specs.declared.release.Release.{Release}
use Rattle.cbsrun_simulate.specs.declared.terms.SourceTerms.{SourceTerms}

-- no range of the terms is empty: its least number is at most its greatest
pub record HasRanges (t : SourceTerms) : Type 0 where
  pub every : t.every.least ≤ t.every.greatest
  pub units : t.units.least ≤ t.units.greatest
  pub overrun : t.overrun.least ≤ t.overrun.greatest

-- a release before the tick `until`, with the server of these terms, and with units and an overrun in their ranges
pub record IsOfTerms (until : ℕ) (t : SourceTerms) (r : Release) : Type 0 where
  pub server : r.server ≡ t.server
  pub some : 0 < r.units
  pub units : r.units ≤ t.units.greatest
  pub overrun : r.overrun ≤ t.overrun.greatest
  pub early : r.tick < until

-- the release is one of the source at its place, which counts from `first` on
pub record IsOfSource (until first : ℕ) (sources : List SourceTerms) (r : Release) : Type 0 where
  pub place : ℕ
  pub source : r.source ≡ first + place
  pub terms : SourceTerms
  pub stands : slice_get sources place ≡ Some terms
  pub is : IsOfTerms until terms r

-- a release of the same source comes at least so many ticks later
abbrev pub IsLater : (ℕ → ℕ) → Release → Release → Type 0
IsLater gap r q = q.source ≡ r.source → r.tick + gap r.source ≤ q.tick

-- any two releases of source i are at least `gap i` ticks apart
abbrev pub AreApart : (ℕ → ℕ) → List Release → Type 0
AreApart gap [] = Unit {0}
AreApart gap (r ∷ rs) = AllByRecursion (IsLater gap r) rs × AreApart gap rs

-- the source releases one job at most
abbrev pub is_single : Option ℕ → Bool
is_single None = false
is_single (Some jobs) = leb jobs 1

-- the least ticks from one release of a source to the next: of two, the earlier may come late by the whole jitter. If it
-- releases one job at most, there is no next, and the longest period stands for that
abbrev pub distance : SourceTerms → ℕ
distance t = if is_single t.jobs then longest_period else t.every.least - t.jitter

-- the least ticks from one release of source i to the next
abbrev pub least_distance : List SourceTerms → ℕ → ℕ
least_distance sources i = get_or (map distance sources) i 0
