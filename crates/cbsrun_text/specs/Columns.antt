-- Rows of cells as text in columns. The first column is aligned left, and all others right. Each is as wide as its
-- widest cell.
use Rattle.std.specs.Prelude.{◌≡◌, ℕ, ◌+◌, ◌-◌, Bool, false, eqb, if◌then◌else◌, max, List, [], ◌∷◌, ◌++◌, codes}
use Rattle.std.specs.Prelude.{flat_map, get_or, length, map, replicate, slice_get, Option, Some, None, Vec}
use Rattle.std.specs.List.{range_with_len}

-- the text of a cell, and whether the cell is marked
pub record CellText : Type 0 where
  pub text : List ℕ
  pub marked : Bool

-- a cell that is marked if the condition holds
abbrev pub marked_if : Bool → List ℕ → CellText
marked_if marked text = record { text = text; marked = marked }

-- a cell that is not marked
abbrev pub plain : List ℕ → CellText
plain text = marked_if false text

-- the cells of rows
abbrev pub rows_of : {A : Type 0} → List (Vec CellText A) → List (List CellText)
rows_of rows = map (λ row. row.items) rows

-- this many blanks
abbrev pub blanks : ℕ → List ℕ
blanks n = replicate n 32

-- how many bytes the text of a cell has, if there is one
abbrev pub text_width : Option CellText → ℕ
text_width None = 0
text_width (Some c) = length c.text

-- how many bytes the cell of a row in a column has, or 0 if the row ends before the column
abbrev pub width_in : ℕ → List CellText → ℕ
width_in column row = text_width (slice_get row column)

-- the width of a column: the width of its widest cell
abbrev pub width_of : ℕ → List (List CellText) → ℕ
width_of column [] = 0
width_of column (row ∷ rows) = max (width_in column row) (width_of column rows)

-- these are the widths of the first columns, in order
abbrev pub AreWidths : List (List CellText) → List ℕ → Type 0
AreWidths rows widths = widths ≡ map (λ column. width_of column rows) (range_with_len 0 (length widths))

-- a text in a column of this width: aligned left in the first column, and right in all others
abbrev pub placed : ℕ → ℕ → List ℕ → List ℕ
placed column width text =
    if eqb column 0 then text ++ blanks (width - length text)
    else blanks (width - length text) ++ text

-- the same for the last text of a row, without the blanks after it
abbrev pub placed_last : ℕ → ℕ → List ℕ → List ℕ
placed_last column width text = if eqb column 0 then text else blanks (width - length text) ++ text

-- the text between a cell and the next one: two blanks, or the mark and a blank
abbrev pub gap_after : Bool → List ℕ
gap_after marked = if marked then codes "! " else codes "  "

-- the text after the last cell: the mark, if the cell is marked
abbrev pub end_after : Bool → List ℕ
end_after marked = if marked then codes "!" else []

-- an empty cell
abbrev pub no_cell : CellText
no_cell = record { text = []; marked = false }

-- a cell that is followed by another, with the text between them
abbrev pub inner_text : ℕ → ℕ → CellText → List ℕ
inner_text column width c = placed column width c.text ++ gap_after c.marked

-- the last cell of a row, with the text after it
abbrev pub last_text : ℕ → ℕ → CellText → List ℕ
last_text column width c = placed_last column width c.text ++ end_after c.marked

-- the cell of a row in a column of this width, with the text after it
abbrev pub cell_in : ℕ → List CellText → ℕ → List ℕ
cell_in width row column =
    if eqb (column + 1) (length row) then last_text column width (get_or row column no_cell)
    else inner_text column width (get_or row column no_cell)

-- the same, in a column as wide as its widest cell
abbrev pub cell_text : List (List CellText) → List CellText → ℕ → List ℕ
cell_text rows row column = cell_in (width_of column rows) row column

-- a row as a line
unfoldable pub row_text : List (List CellText) → List CellText → List ℕ
row_text rows row = flat_map (cell_text rows row) (range_with_len 0 (length row)) ++ codes "\n"

-- all rows as lines
unfoldable pub columns_text : List (List CellText) → List ℕ
columns_text rows = flat_map (row_text rows) rows
