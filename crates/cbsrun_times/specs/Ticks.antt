-- Times in whole ticks.
use Rattle.std.specs.Prelude.{ℕ, Bool, true, false, eqb, ltb, leb, ◌&&◌, ◌*◌, ◌/◌, ◌%◌, if◌then◌else◌, List, Option, Some, None}
use Rattle.std.specs.Int.{div_ceil}
use Rattle.std.specs.Option.{option_and_then}
use Rattle.cbsrun_times.specs.Decimals.{decimal_of, parted}
use Rattle.cbsrun_times.specs.Units.{is_frequency, length_in, unit_of}
use Rattle.cbsrun_times.specs.declared.decimal.Decimal.{Decimal}
use Rattle.cbsrun_times.specs.declared.ticks.Rounding.{Rounding}
use Rattle.cbsrun_times.specs.declared.ticks.Rounding.TheVariants.{Up, Down, Whole}
use Rattle.cbsrun_times.specs.declared.unit.Length.{Length}
use Rattle.cbsrun_times.specs.declared.unit.Unit.{Unit}

-- a fraction as a whole number, if there is one
abbrev pub rounded : Rounding → ℕ → ℕ → Option ℕ
rounded Up part of = Some (div_ceil part of)
rounded Down part of = Some (part / of)
rounded Whole part of = if eqb (part % of) 0 then Some (part / of) else None

-- at most 10^12 ticks
abbrev pub few : ℕ → Option ℕ
few ticks = if leb ticks 1000000000000 then Some ticks else None

-- a length in ticks of so many nanoseconds. There are none if a frequency or a tick is 0
abbrev pub in_ticks : ℕ → Rounding → Length → Option ℕ
in_ticks tick rounding l =
    if eqb (l.of * tick) 0 then None else option_and_then few (rounded rounding l.nanoseconds (l.of * tick))

-- it is rounded up
abbrev pub is_up : Rounding → Bool
is_up Up = true
is_up _ = false

-- so many units in ticks. No frequency is rounded up
abbrev pub units_in_ticks : ℕ → Rounding → Decimal → Unit → Option ℕ
units_in_ticks tick rounding count unit =
    if is_frequency unit && is_up rounding then None else in_ticks tick rounding (length_in unit count)

-- a number and the name of a unit, in ticks
abbrev pub told_in_ticks : ℕ → Rounding → List ℕ × List ℕ → Option ℕ
told_in_ticks tick rounding told =
    option_and_then (λ count. option_and_then (units_in_ticks tick rounding count) (unit_of told.1)) (decimal_of told.0)

-- the ticks of a time, which a text tells as a number, a space and a unit
unfoldable pub ticks_of : ℕ → Rounding → List ℕ → Option ℕ
ticks_of tick rounding text = option_and_then (told_in_ticks tick rounding) (parted 32 text)

-- at least a nanosecond, and at most a second
abbrev pub is_tick : ℕ → Bool
is_tick tick = ltb 0 tick && leb tick 1000000000

-- the nanoseconds of a tick, which a text tells as a time
unfoldable pub tick_of : List ℕ → Option ℕ
tick_of text = option_and_then (λ tick. if is_tick tick then Some tick else None) (ticks_of 1 Whole text)
