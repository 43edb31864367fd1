-- Shares and means as text.
use Rattle.std.specs.Prelude.{ℕ, ◌+◌, ◌*◌, ◌/◌, eqb, ltb, if◌then◌else◌, List, ◌++◌, codes, decimal, Option, Some, None}
use Rattle.cbsrun_text.specs.Numbers.{tenths_text}
use Rattle.cbsrun_time_texts.specs.Texts.{part_text, time_text}

-- how many tenths of a per cent a part is of a whole, rounded, a half upward
abbrev pub percent_tenths : ℕ → ℕ → ℕ
percent_tenths part whole = (2000 * part + whole) / (2 * whole)

-- a part of a whole in per cent, with one decimal; `-` if the whole is 0
unfoldable pub percent_text : ℕ → ℕ → List ℕ
percent_text part whole = if eqb whole 0 then codes "-" else tenths_text (percent_tenths part whole) ++ codes " %"

-- the tenths of the mean of numbers with this sum, rounded, a half upward
abbrev pub mean_tenths : ℕ → ℕ → ℕ
mean_tenths total count = (20 * total + count) / (2 * count)

-- the mean of numbers with this sum, with one decimal; `-` if there is no number
unfoldable pub mean_text : ℕ → ℕ → List ℕ
mean_text total count = if eqb count 0 then codes "-" else tenths_text (mean_tenths total count)

-- a great number of ticks: in milliseconds, if the nanoseconds of a tick are known and there are fewer than 2^64
abbrev pub great_text : Option ℕ → ℕ → List ℕ
great_text None ticks = decimal ticks
great_text (Some tick) ticks = if ltb ticks 18446744073709551616 then time_text (Some tick) ticks else decimal ticks ++ codes " ticks"

-- a mean of numbers of ticks with this sum: in milliseconds, if it is less than 10^18 ticks
abbrev pub mean_part_text : ℕ → ℕ → ℕ → List ℕ
mean_part_text tick total count =
    if ltb (mean_tenths total count / 10) 1000000000000000000 then part_text tick (mean_tenths total count) 10 else mean_text total count ++ codes " ticks"

-- the same, if the nanoseconds of a tick are known and there is a number
abbrev pub mean_time_text : Option ℕ → ℕ → ℕ → List ℕ
mean_time_text None total count = mean_text total count
mean_time_text (Some tick) total count = if eqb count 0 then mean_text total count else mean_part_text tick total count
