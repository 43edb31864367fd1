-- Releases, and when they come.
use Rattle.std.specs.Prelude.{ℕ, ◌≤◌, ◌<◌, ltb, List, [], ◌∷◌, if◌then◌else◌}
use Rattle.cbs_rate.specs.Limits.{most_units}
use Rattle.cbsrun_simulate.specs.declared.release.Release.{Release}

-- the units of a release make a job: 1 to 1000000
pub record MakesJob (r : Release) : Type 0 where
  pub some : 0 < r.units
  pub few : r.units ≤ most_units

-- the releases come in the order of their ticks, the first of them at `now` or later
abbrev pub IsInOrder : ℕ → List Release → Type 0
IsInOrder now [] = Unit {0}
IsInOrder now (r ∷ rs) = (now ≤ r.tick) × IsInOrder r.tick rs

-- the releases up to the first whose tick is not before `until`, without that one
abbrev pub before : ℕ → List Release → List Release
before until [] = []
before until (r ∷ rs) = if ltb r.tick until then r ∷ before until rs else []
