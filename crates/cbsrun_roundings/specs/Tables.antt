-- The table of the times that are no whole number of ticks.
use Rattle.std.specs.Prelude.{ℕ, ◌-◌, eqb, if◌then◌else◌, List, [], ◌∷◌, ◌++◌, codes, decimal, length, map, take, Option, Some, None}
use Rattle.cbsrun_text.specs.Columns.{CellText, columns_text, plain}
use Rattle.cbsrun_time_texts.specs.Texts.{time_text}
use Rattle.toml.specs.Data.{Members}
use Rattle.cbsrun_roundings.specs.Roundings.{RoundedTime, roundings_of}
use Rattle.cbsrun_roundings.specs.declared.table.Shown.{Shown}
use Rattle.cbsrun_roundings.specs.declared.table.Shown.TheVariants as shown

-- the text of a cell, and the cell
abbrev pub shown_text : Shown → List ℕ
shown_text (shown.Word word) = word.now
shown_text (shown.Time tick ticks) = time_text (Some tick) ticks

abbrev pub cell_of : Shown → CellText
cell_of s = plain (shown_text s)

abbrev pub heading : List CellText
heading = plain (codes "ROUNDED") ∷ plain (codes "key") ∷ plain (codes "in the file") ∷ plain (codes "taken as") ∷ []

-- the row of a time: whose it is, its key, its text, and as what it is taken, by the nanoseconds of a tick
abbrev pub row_of : ℕ → RoundedTime → List CellText
row_of tick r = plain r.owner ∷ plain r.key ∷ plain r.text ∷ plain (time_text (Some tick) r.ticks) ∷ []

-- the table of some times
abbrev pub roundings_table : ℕ → List RoundedTime → List (List CellText)
roundings_table tick rows = heading ∷ map (row_of tick) rows

-- how many more there are, if there are more
abbrev pub more_text : ℕ → List ℕ
more_text n = if eqb n 0 then [] else codes "and " ++ decimal n ++ codes " more\n"

-- an empty line, the table of the first 20 times, and how many more there are; nothing if there is none
unfoldable pub roundings_text : ℕ → List RoundedTime → List ℕ
roundings_text tick rows =
    if eqb (length rows) 0 then []
    else codes "\n" ++ columns_text (roundings_table tick (take 20 rows)) ++ more_text (length rows - 20)

-- what is told of a load, by its top table: nothing if it does not say how long a tick is
abbrev pub load_roundings : Option ℕ → Members → List ℕ
load_roundings None ms = []
load_roundings (Some tick) ms = roundings_text tick (roundings_of tick ms)
