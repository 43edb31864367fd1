-- What the cells of the tables show.
use Rattle.std.specs.Prelude.{Bool, false, ℕ, List, ◌++◌, codes, decimal}
use Rattle.cbsrun_text.specs.Columns.{CellText, marked_if}
use Rattle.cbsrun_time_texts.specs.Texts.{amount_text, time_text}
use Rattle.cbsrun_report_text.specs.Numbers.{percent_text, great_text, mean_time_text}
use Rattle.cbsrun_report_text.specs.declared.cells.Shown.{Shown}
use Rattle.cbsrun_report_text.specs.declared.cells.Shown.TheVariants as shown

-- the text of a cell
abbrev pub shown_text : Shown → List ℕ
shown_text (shown.Word word) = word.now
shown_text (shown.Number number) = decimal number
shown_text (shown.Sum number) = decimal number
shown_text (shown.Marked number _) = decimal number
shown_text (shown.Pair first word second) = decimal first ++ word.now ++ decimal second
shown_text (shown.Percent percent) = percent_text percent.part percent.whole
shown_text (shown.MarkedPercent percent _) = percent_text percent.part percent.whole
shown_text (shown.Time tick ticks) = time_text tick ticks
shown_text (shown.MarkedTime tick ticks _) = time_text tick ticks
shown_text (shown.GreatTime tick ticks) = great_text tick ticks
shown_text (shown.TimeRange tick least greatest) = amount_text tick least ++ codes ".." ++ time_text tick greatest
shown_text (shown.Reserved tick budget period) = time_text tick budget ++ codes " in " ++ time_text tick period
shown_text (shown.Mean tick mean) = mean_time_text tick mean.total mean.count

-- whether a cell is marked
abbrev pub is_marked : Shown → Bool
is_marked (shown.Marked _ marked) = marked
is_marked (shown.MarkedTime _ _ marked) = marked
is_marked (shown.MarkedPercent _ marked) = marked
is_marked _ = false

-- the cell that shows this
abbrev pub cell_of : Shown → CellText
cell_of s = marked_if (is_marked s) (shown_text s)
