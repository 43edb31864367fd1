-- Times in microseconds, in which the Trace Event Format counts.
use Rattle.std.specs.Prelude.{ℕ, eqb, ◌*◌, ◌/◌, ◌%◌, if◌then◌else◌, List, [], ◌++◌, codes, decimal, Option, Some, None}
use Rattle.cbsrun_time_texts.specs.Texts.{milliseconds_text}

-- the digits of a part of a microsecond, fewer than 1000 nanoseconds, up to the last that is not 0
abbrev pub digits_text : ℕ → List ℕ
digits_text part =
    decimal (part / 100) ++ (if eqb (part % 100) 0 then [] else decimal (part / 10 % 10))
    ++ (if eqb (part % 10) 0 then [] else decimal (part % 10))

-- a point and the digits of a part, unless it is 0
abbrev pub decimals_text : ℕ → List ℕ
decimals_text part = if eqb part 0 then [] else codes "." ++ digits_text part

-- so many ticks in microseconds, by the nanoseconds of a tick. If these are not known, a tick is a microsecond
abbrev pub microseconds_text : Option ℕ → ℕ → List ℕ
microseconds_text None ticks = decimal ticks
microseconds_text (Some n) ticks = decimal (n * ticks / 1000) ++ decimals_text (n * ticks % 1000)

-- how long a tick is
abbrev pub tick_text : Option ℕ → List ℕ
tick_text None = codes "a microsecond"
tick_text (Some n) = milliseconds_text n 1 ++ codes " ms"
