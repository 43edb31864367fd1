-- Numbers of ticks, and times that stand for them.
use Rattle.std.specs.Prelude.{ℕ, ℤ, pos, codes, List, Option, Some, None, Result, Ok, Err}
use Rattle.toml.specs.Data.{Data, Members, get_member, string}
use Rattle.cbsrun_times.specs.Ticks.{tick_of, ticks_of}
use Rattle.cbsrun_times.specs.declared.ticks.Rounding.{Rounding}
use Rattle.cbsrun_toml_tables.specs.declared.fault.FileKind.{FileKind}
use Rattle.cbsrun_toml_tables.specs.declared.fault.FileKind.TheVariants.{OutOfRange}
use Rattle.cbsrun_toml_tables.specs.Fields.{◌>>=◌, integer, of_some, present, text}

-- the nanoseconds of a tick, if the text tells them
abbrev pub told_tick : List ℕ → Result ℕ FileKind
told_tick bytes = elim (tick_of bytes) [ None ↦ Err OutOfRange | Some tick ↦ Ok tick ]

-- the nanoseconds of a tick, as the key `tick` tells, if the table has it
abbrev pub tick_at : Members → Result (Option ℕ) FileKind
tick_at table = of_some (λ value. text value >>= told_tick) (get_member (codes "tick") table)

-- how many ticks a text tells, by the nanoseconds of a tick
abbrev pub ticks_by : ℕ → Rounding → List ℕ → Result ℤ FileKind
ticks_by tick rounding bytes = elim (ticks_of tick rounding bytes) [ None ↦ Err OutOfRange | Some n ↦ Ok (pos n) ]

-- a number of ticks: an integer, or, if the file says how long a tick is, a text that tells a time
abbrev pub ticks : Option ℕ → Rounding → Data → Result ℤ FileKind
ticks (Some tick) rounding (string bytes) = ticks_by tick rounding bytes
ticks _ rounding value = integer value

-- the number of ticks at a key, and at a key that may be left out
unfoldable pub ticks_at : Option ℕ → Rounding → List ℕ → Members → Result ℤ FileKind
ticks_at tick rounding key table = present key table >>= ticks tick rounding

unfoldable pub optional_ticks_at : Option ℕ → Rounding → List ℕ → Members → Result (Option ℤ) FileKind
optional_ticks_at tick rounding key table = of_some (ticks tick rounding) (get_member key table)
