-- Rows, one after another, and the widths of their columns.
use Rattle.std.proofs.Common.{◌≡◌, ◌∙◌, ℕ, ◌+◌, ◌<◌, List, [], ◌∷◌, ◌++◌, length, map, get_or, take, refl, sym, ap, arith}
use Rattle.std.specs.Prelude.{max, Vec}
use Rattle.std.specs.List.{range_with_len}
use Rattle.std.proofs.lemmas.List.{take_more, map-append}
use Rattle.std.proofs.lemmas.List.Recursion.{max_push}
use Rattle.std.proofs.lemmas.List.FromFn.{length-map-range_with_len, get_or-map-range_with_len, map-range_with_len_more}
use Rattle.cbsrun_text.specs.Columns.{CellText, AreWidths, rows_of, width_in, width_of}

-- the rows up to one, and that one
rows_more : {A : Type 0} (rows : List (Vec CellText A)) (i : ℕ) (d : Vec CellText A) → i < length rows
    → rows_of (take (i + 1) rows) ≡ rows_of (take i rows) ++ (get_or rows i d).items ∷ []
rows_more {A} rows i d h = ap rows_of (take_more rows i d h) ∙ map-append (λ (row : Vec CellText A). row.items) (take i rows) (get_or rows i d ∷ [])

-- the width with a row more
width_of_push : (column : ℕ) (rows : List (List CellText)) (row : List CellText)
    → width_of column (rows ++ row ∷ []) ≡ max (width_of column rows) (width_in column row)
width_of_push column rows row = max_push (width_of column) (width_in column) refl (λ _ _. refl) rows row

pub width_of_more : {A : Type 0} (column : ℕ) (rows : List (Vec CellText A)) (i : ℕ) (d : Vec CellText A) → i < length rows
    → width_of column (rows_of (take (i + 1) rows)) ≡ max (width_of column (rows_of (take i rows))) (width_in column (get_or rows i d).items)
width_of_more column rows i d h = ap (width_of column) (rows_more rows i d h) ∙ width_of_push column (rows_of (take i rows)) (get_or rows i d).items

-- the widths of this many columns
abbrev pub first_widths : List (List CellText) → ℕ → List ℕ
first_widths rows count = map (λ column. width_of column rows) (range_with_len 0 count)

-- .. are so many
pub widths_counted : (rows : List (List CellText)) (widths : List ℕ) (n : ℕ) → widths ≡ first_widths rows n → length widths ≡ n
widths_counted rows widths n e = ap length e ∙ length-map-range_with_len (λ column. width_of column rows) 0 n

-- .. with one more
pub widths_more : (rows : List (List CellText)) (widths new : List ℕ) (n width : ℕ) → new ≡ widths ++ width ∷ []
    → widths ≡ first_widths rows n → width ≡ width_of n rows → new ≡ first_widths rows (n + 1)
widths_more rows widths new n width grew e is =
    grew ∙ (ap (λ ws. ws ++ width ∷ []) e ∙ (ap (λ w. first_widths rows n ++ w ∷ []) is
    ∙ sym (map-range_with_len_more (λ column. width_of column rows) 0 n n (omega arith))))

-- .. are widths
pub are_widths : (rows : List (List CellText)) (widths : List ℕ) (n : ℕ) → widths ≡ first_widths rows n → AreWidths rows widths
are_widths rows widths n e = e ∙ ap (first_widths rows) (sym (widths_counted rows widths n e))

-- the width at a place
pub width_at : (rows : List (List CellText)) (widths : List ℕ) (i d : ℕ) → AreWidths rows widths → i < length widths
    → get_or widths i d ≡ width_of i rows
width_at rows widths i d are h =
    ap (λ ws. get_or ws i d) are
    ∙ get_or-map-range_with_len (λ column. width_of column rows) 0 (length widths) i i d h (omega arith)
