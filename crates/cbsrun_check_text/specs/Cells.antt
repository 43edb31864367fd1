-- What the cells of the tables show.
use Rattle.std.specs.Prelude.{Bool, false, ℕ, List, Option, ◌++◌, codes, eqb, if◌then◌else◌}
use Rattle.cbsrun_time_texts.specs.Texts.{amount_text, time_text}
use Rattle.cbsrun_text.specs.Columns.{CellText, marked_if}
use Rattle.cbsrun_check_text.specs.Fractions.{fraction_text, percent_text}
use Rattle.cbsrun_check_text.specs.declared.cells.Shown.{Shown}
use Rattle.cbsrun_check_text.specs.declared.cells.Shown.TheVariants as shown

-- a range of ticks without their unit; a range of one number is written as that number
abbrev pub range_amount : Option ℕ → ℕ → ℕ → List ℕ
range_amount tick least greatest =
    if eqb least greatest then amount_text tick least else amount_text tick least ++ codes ".." ++ amount_text tick greatest

-- the text of a cell
abbrev pub shown_text : Shown → List ℕ
shown_text (shown.Word word) = word.now
shown_text (shown.Time tick ticks) = time_text tick ticks
shown_text (shown.Range tick least greatest) = amount_text tick least ++ codes ".." ++ time_text tick greatest
shown_text (shown.Jittered tick least greatest jitter) = range_amount tick least greatest ++ codes " +" ++ time_text tick jitter
shown_text (shown.Once tick ticks) = time_text tick ticks ++ codes " once"
shown_text (shown.InTime tick ticks) = codes "yes, by " ++ time_text tick ticks
shown_text (shown.TooLate tick ticks) = codes "no, by " ++ time_text tick ticks
shown_text (shown.Fraction share) = fraction_text share.part share.whole
shown_text (shown.MarkedFraction share _) = fraction_text share.part share.whole
shown_text (shown.Percent share) = percent_text share.part share.whole

-- whether a cell is marked
abbrev pub is_marked : Shown → Bool
is_marked (shown.MarkedFraction _ marked) = marked
is_marked _ = false

-- the cell that shows this
abbrev pub cell_of : Shown → CellText
cell_of s = marked_if (is_marked s) (shown_text s)
