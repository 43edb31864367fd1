-- What a meter returns for a unit.
use Rattle.std.specs.Prelude.{ℕ, ◌≡◌, ◌-◌, ◌^◌, min, Option, Some, None}
use Rattle.std.specs.Duration.{as_nanos}
use Rattle.std.specs.declared.time.Duration.{Duration}
use Rattle.cbs_pace.specs.Units.{charge_of}
use Rattle.cbs_pace.specs.declared.rounding.Rounding.TheVariants.{Up}

-- What a meter may return for a unit of server s: that it took n ticks after its first. Here only 0 is allowed:
abbrev pub NothingBeyond : ℕ → ℕ → Type 0
NothingBeyond s n = n ≡ 0

-- a meter that may return only 0, so that no server is ever charged
abbrev pub NeverCharges : (ℕ → ℕ → Type 0) → Type 0
NeverCharges may = (s n : ℕ) → may s n → n ≡ 0

-- so much time in nanoseconds, at most the greatest number of 64 bits
abbrev pub nanos_of : Duration → ℕ
nanos_of time = min (as_nanos time) (2 ^ 64 - 1)

-- How many ticks of this length a unit is charged, rounded up, by the readings of a clock at its begin and at its end. A
-- reading that is missing counts as no time, and so does a clock that went back
abbrev pub ticks_between : Option Duration → Option Duration → ℕ → ℕ
ticks_between None ended tick = 0
ticks_between (Some begun) None tick = 0
ticks_between (Some begun) (Some ended) tick = charge_of Up tick 0 (min (as_nanos ended - as_nanos begun) (2 ^ 64 - 1))

-- n ticks lie after the first in a unit that began at this reading, by some reading at its end
abbrev pub IsMeasuredFrom : Option Duration → ℕ → ℕ → Type 0
IsMeasuredFrom begun tick n = (ended : Option Duration) × (n ≡ ticks_between begun ended tick)
