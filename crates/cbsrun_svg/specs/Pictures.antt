-- The whole picture.
use Rattle.std.specs.Prelude.{ℕ, ◌+◌, ◌-◌, ◌*◌, ◌/◌, eqb, ltb, max, min, if◌then◌else◌, List, [], ◌∷◌, ◌++◌, codes, decimal, flat_map, length, string_bytes, Option}
use Rattle.cbsrun_window.specs.Counts.{counts_of}
use Rattle.cbsrun_chart.specs.declared.picture.Drawn.{Drawn}
use Rattle.cbsrun_chart.specs.declared.picture.Picture.{Picture}
use Rattle.cbsrun_window.specs.declared.stretch.Stretch.{Stretch}
use Rattle.cbsrun_window.specs.declared.window.Window.{Window}
use Rattle.cbsrun_svg_shapes.specs.Axes.{AxisSeen, axis_of, is_wide, right_of}
use Rattle.cbsrun_svg_shapes.specs.Columns.{cell_counts}
use Rattle.cbsrun_svg_shapes.specs.Shapes.{escaped, label_text, path_text, stretch_text}
use Rattle.cbsrun_svg.specs.Heads.{all_charged, heading_text, sentence_text, summary_text, numbers_text, scale_text, ticks_numbered, uprights_text}
use Rattle.cbsrun_svg_shapes.specs.Layouts.{layout_of}
use Rattle.cbsrun_svg_shapes.specs.declared.layout.Layout.{Layout}
use Rattle.cbsrun_svg.specs.Rows.{layer_text, row_text, short_terms_text, terms_text}
use Rattle.cbsrun_svg_shapes.specs.declared.columns.Layer.TheVariants.{Idle}
use Rattle.cbsrun_svg.specs.declared.style.TheConstants.{STYLE, LEGEND, CHARGED_LEGEND, CHARGED_FILL_LEGEND, BUDGET_LEGEND, COLUMN_LEGEND}

-- the width of a server's words; of each word at most 40 letters count
abbrev pub words_width : Option ℕ → ℕ → Drawn → ℕ
words_width n servers d =
    if ltb 8 servers then 2800 + 800 * min 40 (length (string_bytes d.name)) + 620 * min 40 (length (short_terms_text n d.reservation d.mode))
    else max (2400 + 870 * min 40 (length (string_bytes d.name))) (4000 + 620 * min 40 (length (terms_text n d.reservation)))

-- the left edge of the axis, which leaves room for the widest words
abbrev pub left_of : Option ℕ → ℕ → List Drawn → ℕ
left_of n servers [] = 15000
left_of n servers (d ∷ ds) = max (words_width n servers d) (left_of n servers ds)

-- where the parts of a picture stand: its axis, its rows, and the line of its scale
abbrev pub axis_for : Picture → AxisSeen
axis_for p = axis_of p.window (left_of p.tick (length p.servers.items) p.servers.items)

abbrev pub layout_for : Picture → Layout
layout_for p = layout_of (length p.servers.items) (axis_for p)

abbrev pub scale_of : ℕ → Layout → ℕ
scale_of servers l = 12400 + servers * l.row

-- the opening tag of the document, by the left edge of the axis and the line of the scale
unfoldable pub opening_text : ℕ → ℕ → List ℕ
opening_text left scale =
    codes "<svg xmlns=\"http://www.w3.org/2000/svg\" viewBox=\"0 0 " ++ decimal (left + 107300) ++ codes " " ++ decimal (scale + 4200) ++ codes "\" width=\""
    ++ decimal ((left + 107300) / 100) ++ codes "\" height=\"" ++ decimal ((scale + 4200) / 100)
    ++ codes "\" role=\"img\" aria-labelledby=\"what how\">\n"

-- the page: a rectangle behind everything
unfoldable pub page_text : ℕ → ℕ → List ℕ
page_text left scale =
    codes "<rect class=\"page\" width=\"" ++ decimal (left + 107300) ++ codes "\" height=\"" ++ decimal (scale + 4200) ++ codes "\"/>\n"

-- the title, which is read aloud
unfoldable pub title_text : List ℕ → List ℕ
title_text heading = codes "<title id=\"what\">" ++ heading ++ codes "</title>\n"

-- the sentence of a server, and the sentences of all servers
abbrev pub server_sentence : Option ℕ → Window → Drawn → List ℕ
server_sentence n w d = sentence_text n w (escaped (string_bytes d.name)) d

unfoldable pub sentences_text : Option ℕ → Window → List Drawn → List ℕ
sentences_text n w servers = flat_map (server_sentence n w) servers

-- the description of what a picture shows, which is read aloud
unfoldable pub description_text : Picture → List ℕ → List ℕ
description_text p summary =
    codes "<desc id=\"how\">" ++ summary ++ codes "\n" ++ sentences_text p.tick p.window p.servers.items ++ codes "</desc>\n"

-- the opening tag, the title, the description, the style and the page
unfoldable pub words_text : ℕ → ℕ → List ℕ → List ℕ → Picture → List ℕ
words_text left scale heading summary p =
    opening_text left scale ++ title_text heading ++ description_text p summary ++ STYLE.now ++ page_text left scale

-- the legend of the course of a budget, if budgets are drawn
unfoldable pub budget_legend : Layout → List ℕ
budget_legend l = if l.budgets then BUDGET_LEGEND.now else []

-- the legend of charged ticks, as they are drawn
abbrev pub charged_legend : AxisSeen → List ℕ
charged_legend a = if is_wide a then CHARGED_LEGEND.now else CHARGED_FILL_LEGEND.now

-- the legend of the shapes that are drawn tick by tick
unfoldable pub fine_legend : AxisSeen → Layout → List ℕ
fine_legend a l = LEGEND.now ++ charged_legend a ++ budget_legend l

-- the legend of the shapes, drawn in columns or tick by tick
abbrev pub legend_text : AxisSeen → Layout → List ℕ
legend_text a l = if l.dense then COLUMN_LEGEND.now else fine_legend a l

-- the heading, the summary and the legend
unfoldable pub top_text : AxisSeen → Layout → List ℕ → List ℕ → List ℕ
top_text a l heading summary =
    label_text (codes "h") 1600 3000 heading ++ label_text (codes "m") 1600 5000 summary ++ legend_text a l

-- the heading of the units, and of charged ticks if there are any. That one is longer, and stands above the numbers
unfoldable pub units_heading : AxisSeen → ℕ → List ℕ
units_heading a charged =
    if eqb charged 0 then label_text (codes "m r") (right_of a + 5700) 10200 (codes "units")
    else label_text (codes "m r") (right_of a + 5700) 9000 (codes "units + charged")

-- faint lines through all rows at the numbered ticks, and the heading of the units. If there are many rows, the numbers
-- stand once more above them
unfoldable pub grid_text : Option ℕ → AxisSeen → Layout → ℕ → List ℕ → ℕ → List ℕ
grid_text n a l scale ts charged =
    path_text (codes "grid") (uprights_text a 10500 scale ts) ++ units_heading a charged ++ (if l.compact then numbers_text n a 10200 ts else [])

-- the row of a server
abbrev pub server_row : Option ℕ → AxisSeen → Layout → Window → ℕ → Drawn → List ℕ
server_row n a l w top d = row_text n a l w top (escaped (string_bytes d.name)) d.mode d

-- all rows, one below another
unfoldable pub rows_text : Option ℕ → AxisSeen → Layout → Window → ℕ → List Drawn → List ℕ
rows_text n a l w top [] = []
rows_text n a l w top (d ∷ ds) = server_row n a l w top d ++ rows_text n a l w (top + l.row) ds

-- the ticks in which nobody runs, drawn tick by tick
unfoldable pub idle_boxes : AxisSeen → ℕ → List Stretch → List ℕ
idle_boxes a scale ps = path_text (codes "idle") (flat_map (stretch_text a (scale - 900) 600) ps)

-- the ticks in which nobody runs, drawn in columns if there are many ticks
abbrev pub idle_shape : AxisSeen → Layout → ℕ → List Stretch → List ℕ
idle_shape a l scale ps = if l.dense then layer_text a (scale - 300) 600 Idle (codes "idle") (cell_counts a ps) else idle_boxes a scale ps

-- the line of the ticks in which nobody runs
unfoldable pub idle_text : AxisSeen → Layout → Window → ℕ → List Stretch → List ℕ
idle_text a l w scale ps =
    label_text (codes "m") 1600 (scale - 400) (codes "idle")
    ++ label_text (codes "u") (right_of a + 5700) (scale - 400) (decimal (counts_of w.from w.to ps).idle) ++ idle_shape a l scale ps

-- all rows, with the grid, idle line and scale around them
unfoldable pub body_text : AxisSeen → Layout → Window → ℕ → List ℕ → Picture → List ℕ
body_text a l w scale ts p =
    grid_text p.tick a l scale ts (all_charged w p.servers.items) ++ rows_text p.tick a l w 11000 p.servers.items ++ idle_text a l w scale p.idle.items
    ++ scale_text p.tick a scale ts ++ codes "</svg>\n"

-- the text of a picture on an axis
unfoldable pub drawn_text : AxisSeen → Layout → List ℕ → List ℕ → Picture → List ℕ
drawn_text a l heading summary p =
    words_text a.left (scale_of (length p.servers.items) l) heading summary p ++ top_text a l heading summary
    ++ body_text a l p.window (scale_of (length p.servers.items) l) (ticks_numbered p.tick a p.window) p

-- the text of a picture
abbrev pub svg_text : Picture → List ℕ
svg_text p =
    drawn_text (axis_for p) (layout_for p) (heading_text p.tick (escaped (string_bytes p.file)) p.window) (summary_text p (axis_for p).cell) p
