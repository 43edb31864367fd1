-- Units of time and of frequency.
use Rattle.std.specs.Prelude.{ℕ, Bool, true, false, ◌*◌, if◌then◌else◌, List, bytes_eq, codes, Option, Some, None}
use Rattle.cbsrun_times.specs.declared.decimal.Decimal.{Decimal}
use Rattle.cbsrun_times.specs.declared.unit.Length.{Length}
use Rattle.cbsrun_times.specs.declared.unit.Unit.{Unit}
use Rattle.cbsrun_times.specs.declared.unit.Unit.TheVariants.{Seconds, Milliseconds, Microseconds, Nanoseconds, Hertz, Kilohertz}

-- the unit with this name
abbrev pub unit_of : List ℕ → Option Unit
unit_of name =
    if bytes_eq name (codes "s") then Some Seconds
    else if bytes_eq name (codes "ms") then Some Milliseconds
    else if bytes_eq name (codes "us") then Some Microseconds
    else if bytes_eq name (codes "ns") then Some Nanoseconds
    else if bytes_eq name (codes "Hz") then Some Hertz
    else if bytes_eq name (codes "kHz") then Some Kilohertz
    else None

-- it is a unit of frequency
abbrev pub is_frequency : Unit → Bool
is_frequency Hertz = true
is_frequency Kilohertz = true
is_frequency _ = false

-- the length of so many units, in nanoseconds. A frequency stands for the time from one to the next
abbrev pub length_in : Unit → Decimal → Length
length_in Seconds d = record { nanoseconds = d.parts * 1000000000; of = d.of }
length_in Milliseconds d = record { nanoseconds = d.parts * 1000000; of = d.of }
length_in Microseconds d = record { nanoseconds = d.parts * 1000; of = d.of }
length_in Nanoseconds d = record { nanoseconds = d.parts; of = d.of }
length_in Hertz d = record { nanoseconds = d.of * 1000000000; of = d.parts }
length_in Kilohertz d = record { nanoseconds = d.of * 1000000; of = d.parts }
