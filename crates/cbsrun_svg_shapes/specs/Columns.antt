-- What a server does, drawn in columns by counts of ticks in cells.
use Rattle.std.specs.Prelude.{ℕ, ◌+◌, ◌-◌, ◌*◌, ◌/◌, min, max, eqb, if◌then◌else◌, List, [], ◌++◌, codes}
use Rattle.std.specs.Prelude.{decimal, flat_map, get_or, length, map, slice_get, unwrap_or}
use Rattle.std.specs.List.{range_with_len}
use Rattle.cbsrun_window.specs.Counts.{counts_of}
use Rattle.cbsrun_window.specs.declared.counts.Counts.{Counts}
use Rattle.cbsrun_window.specs.declared.stretch.Stretch.{Stretch}
use Rattle.cbsrun_svg_shapes.specs.Axes.{AxisSeen, right_of, tick_of_cell, x_of_cell}
use Rattle.cbsrun_svg_shapes.specs.declared.columns.Layer.{Layer}
use Rattle.cbsrun_svg_shapes.specs.declared.columns.Layer.TheVariants as layer

-- the counts of cell i
unfoldable pub counts_at : AxisSeen → List Stretch → ℕ → Counts
counts_at a ps i = counts_of (tick_of_cell a i) (tick_of_cell a (i + 1)) ps

-- the counts of all cells
unfoldable pub cell_counts : AxisSeen → List Stretch → List Counts
cell_counts a ps = map (counts_at a ps) (range_with_len 0 a.cells)

-- how many ticks of a cell are in a layer: at most all ticks of the cell
abbrev pub count_up_to : ℕ → Layer → Counts → ℕ
count_up_to cell layer.Runs c = min cell c.runs
count_up_to cell layer.Charged c = min cell (min cell c.runs + min cell c.charged)
count_up_to cell layer.Throttled c = min cell (min cell c.runs + min cell c.charged + min cell c.throttled)
count_up_to cell layer.Active c = min cell (min cell c.runs + min cell c.charged + min cell c.throttled + min cell c.waits)
count_up_to cell layer.Idle c = min cell c.idle
count_up_to cell layer.Refused c = if eqb c.refused 0 then 0 else cell
count_up_to cell layer.Late c = if eqb c.late 0 then 0 else cell

-- the height of a count of ticks. A count of 0 has height 0, and a count of 1 is high enough to be seen. All ticks of a
-- cell have the whole height
unfoldable pub height_of : ℕ → ℕ → ℕ → ℕ
height_of cell whole count = if eqb count 0 then 0 else 200 + count * (whole - 200) / max 1 cell

-- the height of a layer in a cell
abbrev pub layer_height : AxisSeen → ℕ → Layer → Counts → ℕ
layer_height a whole layer c = height_of a.cell whole (count_up_to a.cell layer c)

-- the heights of a layer in all cells
unfoldable pub heights_of : AxisSeen → ℕ → Layer → List Counts → List ℕ
heights_of a whole layer cs = map (layer_height a whole layer) cs

-- the height of the cell before cell i, or 0 if i is the first
abbrev pub height_before : List ℕ → ℕ → ℕ
height_before hs i = if eqb i 0 then 0 else get_or hs (i - 1) 0

-- the left edge of a cell between two heights. It begins columns, ends them, or goes on at another height
abbrev pub edge_between : AxisSeen → ℕ → ℕ → ℕ → ℕ → List ℕ
edge_between a base before height i =
    if eqb height before then []
    else if eqb before 0 then codes "M" ++ decimal (x_of_cell a i) ++ codes " " ++ decimal base ++ codes "V" ++ decimal (base - height)
    else if eqb height 0 then codes "H" ++ decimal (x_of_cell a i) ++ codes "V" ++ decimal base ++ codes "z"
    else codes "H" ++ decimal (x_of_cell a i) ++ codes "V" ++ decimal (base - height)

-- the left edge of cell i
abbrev pub edge_text : AxisSeen → ℕ → List ℕ → ℕ → List ℕ
edge_text a base hs i = edge_between a base (height_before hs i) (get_or hs i 0) i

-- the left edges of all cells
unfoldable pub edges_text : AxisSeen → ℕ → List ℕ → List ℕ
edges_text a base hs = flat_map (edge_text a base hs) (range_with_len 0 (length hs))

-- the end of the columns at the right edge, if the last cell has a height
unfoldable pub end_text : AxisSeen → ℕ → ℕ → List ℕ
end_text a base height = if eqb height 0 then [] else codes "H" ++ decimal (right_of a) ++ codes "V" ++ decimal base ++ codes "z"

-- columns that stand on the line `base`
unfoldable pub columns_shape : AxisSeen → ℕ → List ℕ → List ℕ
columns_shape a base hs = edges_text a base hs ++ end_text a base (unwrap_or (slice_get hs (length hs - 1)) 0)
