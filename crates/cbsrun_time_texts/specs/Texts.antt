-- Times as text, in milliseconds.
use Rattle.std.specs.Prelude.{ℕ, eqb, ◌*◌, ◌/◌, ◌%◌, if◌then◌else◌, List, [], ◌∷◌, ◌++◌, codes, decimal, Option, Some, None}

-- the nanoseconds of each place after the point
abbrev pub places : List ℕ
places = 100000 ∷ 10000 ∷ 1000 ∷ 100 ∷ 10 ∷ 1 ∷ []

-- the digits of a part of a millisecond, fewer than 10^6 nanoseconds, place by place, up to the last that is not 0
unfoldable pub part_digits : List ℕ → ℕ → List ℕ
part_digits [] part = []
part_digits (place ∷ more) part = if eqb part 0 then [] else decimal (part / place) ++ part_digits more (part % place)

-- a point and the digits of a part, unless it is 0
abbrev pub decimals_text : ℕ → List ℕ
decimals_text part = if eqb part 0 then [] else codes "." ++ part_digits places part

-- so many nanoseconds in milliseconds, with as many decimals as it needs
unfoldable pub nanoseconds_text : ℕ → List ℕ
nanoseconds_text n = decimal (n / 1000000) ++ decimals_text (n % 1000000)

-- the milliseconds of so many ticks, by the nanoseconds of a tick
abbrev pub milliseconds_text : ℕ → ℕ → List ℕ
milliseconds_text tick ticks = nanoseconds_text (tick * ticks)

-- a number of ticks as an output tells it: in milliseconds, if the nanoseconds of a tick are known
abbrev pub amount_text : Option ℕ → ℕ → List ℕ
amount_text None ticks = decimal ticks
amount_text (Some tick) ticks = milliseconds_text tick ticks

-- the unit of such numbers in a table
abbrev pub unit_text : Option ℕ → List ℕ
unit_text None = []
unit_text (Some tick) = codes " ms"

-- the number with its unit in a table, and in a sentence
abbrev pub time_text : Option ℕ → ℕ → List ℕ
time_text tick ticks = amount_text tick ticks ++ unit_text tick

abbrev pub ticks_text : Option ℕ → ℕ → List ℕ
ticks_text None ticks = decimal ticks ++ codes " ticks"
ticks_text (Some tick) ticks = milliseconds_text tick ticks ++ codes " ms"

-- `parts` parts of a tick, of which `of` make up one tick, in milliseconds for a table
abbrev pub part_text : ℕ → ℕ → ℕ → List ℕ
part_text tick parts of = nanoseconds_text (tick * parts / of) ++ codes " ms"
