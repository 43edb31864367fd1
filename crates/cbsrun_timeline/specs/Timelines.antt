-- The whole timeline.
use Rattle.std.specs.Prelude.{ℕ, ◌+◌, ◌-◌, ◌*◌, ◌/◌, ◌%◌, eqb, if◌then◌else◌, List, [], ◌++◌, codes, decimal, flat_map, length, map, replicate, string_bytes}
use Rattle.std.specs.Prelude.{ltb, Bool, Option, Some, None}
use Rattle.std.specs.List.{range_with_len, list_any}
use Rattle.std.specs.Str.{trim_end}
use Rattle.cbsrun_chart.specs.declared.chart.ServerChart.{ServerChart}
use Rattle.cbsrun_chart.specs.Hidden.{hidden_of, hidden_text, left_out_of, left_out_text}
use Rattle.cbsrun_chart.specs.declared.hidden.Hidden.{Hidden}
use Rattle.cbsrun_chart.specs.declared.hidden.LeftOut.{LeftOut}
use Rattle.cbsrun_chart.specs.declared.picture.Drawn.{Drawn}
use Rattle.cbsrun_timeline.specs.Signs.{GridSeen, tick_of, blocks_of, count_of, first_of, grid_of, is_fine, blank, column_mark, column_sign}
use Rattle.cbsrun_window.specs.Counts.{counts_of}
use Rattle.cbsrun_time_texts.specs.Texts.{amount_text, ticks_text}
use Rattle.cbsrun_chart.specs.declared.picture.Picture.{Picture}
use Rattle.cbsrun_window.specs.declared.window.Window.{Window}
use Rattle.cbsrun_timeline.specs.declared.legend.TheConstants.{CHARGED_LEGEND, COLUMN_LEGEND, LEGEND}

-- a text, and blanks after it up to the width
unfoldable pub padded : ℕ → List ℕ → List ℕ
padded width text = text ++ replicate (width - length text) 32

-- the label before the columns: a name up to the width, and two blanks
abbrev pub label_text : ℕ → List ℕ → List ℕ
label_text width name = padded width name ++ codes "  "

-- a line, without the white space at its end
abbrev pub line_text : List ℕ → List ℕ
line_text text = trim_end text ++ codes "\n"

-- the number of the tick at which a numbered column begins, in milliseconds if the nanoseconds of a tick are known, with
-- blanks up to the next numbered column
abbrev pub number_text : GridSeen → ℕ → ℕ → List ℕ
number_text g first k = padded g.step (amount_text g.nanoseconds (tick_of g (first + k * g.step)))

unfoldable pub numbers_text : GridSeen → ℕ → ℕ → List ℕ
numbers_text g first count = flat_map (number_text g first) (range_with_len 0 (count / g.step + 1))

-- '|': each tenth column of a block
abbrev pub tenth : ℕ
tenth = 124

-- ''': each fifth column of a block
abbrev pub fifth : ℕ
fifth = 39

-- the mark at the beginning of a column: each tenth and each fifth column has one
abbrev pub ruler_sign : ℕ → ℕ
ruler_sign k = if eqb (k % 10) 0 then tenth else if eqb (k % 5) 0 then fifth else blank

unfoldable pub ruler_marks : ℕ → List ℕ
ruler_marks count = map ruler_sign (range_with_len 0 (count + 1))

-- the ruler of a block: of `count` columns from the column `first` on, and of their end
unfoldable pub ruler_text : GridSeen → ℕ → ℕ → List ℕ
ruler_text g first count = line_text (label_text g.width [] ++ numbers_text g first count) ++ line_text (label_text g.width [] ++ ruler_marks count)

-- the signs of what a server does in the columns of a block
unfoldable pub signs_text : GridSeen → ServerChart → ℕ → ℕ → List ℕ
signs_text g c first count = map (λ k. column_sign g c (first + k)) (range_with_len 0 count)

-- the marks above the columns of a block
unfoldable pub marks_text : GridSeen → ServerChart → ℕ → ℕ → List ℕ
marks_text g c first count = map (λ k. column_mark g c (first + k)) (range_with_len 0 count)

-- the marks as a line, if there are any
unfoldable pub marks_line : ℕ → List ℕ → List ℕ
marks_line width marks = if eqb (length (trim_end marks)) 0 then [] else line_text (label_text width [] ++ marks)

-- the lines of a server in a block
unfoldable pub server_text : GridSeen → ℕ → ℕ → Drawn → List ℕ
server_text g first count d =
    marks_line g.width (marks_text g d.chart first count) ++ line_text (label_text g.width (string_bytes d.name) ++ signs_text g d.chart first count)

-- how many ticks a column has, if it has more than one
unfoldable pub cell_text : GridSeen → List ℕ
cell_text g = if is_fine g then [] else codes ", a column is " ++ ticks_text g.nanoseconds g.cell

-- the ticks that are shown in milliseconds, too, if the nanoseconds of a tick are known
abbrev pub times_text : Option ℕ → ℕ → ℕ → List ℕ
times_text None from to = []
times_text (Some n) from to = codes ", " ++ ticks_text (Some n) from ++ codes " to " ++ ticks_text (Some n) to

-- the heading: the name of the file, and the ticks that are shown
unfoldable pub heading_text : GridSeen → List ℕ → List ℕ
heading_text g file =
    file ++ codes ", ticks " ++ decimal g.from ++ codes " to " ++ decimal g.to ++ times_text g.nanoseconds g.from g.to ++ cell_text g ++ codes "\n"

-- the line of how many ticks of the run are not shown, if there are any
unfoldable pub hidden_line : Option Hidden → List ℕ
hidden_line None = []
hidden_line (Some h) = hidden_text h ++ codes "\n"

-- the line of how many servers are not drawn, if there are any
unfoldable pub left_out_line : Option LeftOut → List ℕ
left_out_line None = []
left_out_line (Some o) = left_out_text o ++ codes "\n"

-- the lines of all servers in a block
unfoldable pub servers_text : GridSeen → ℕ → ℕ → List Drawn → List ℕ
servers_text g first count servers = flat_map (server_text g first count) servers

-- block b, after an empty line: a ruler, and the lines of all servers
unfoldable pub block_text : GridSeen → List Drawn → ℕ → List ℕ
block_text g servers b = codes "\n" ++ ruler_text g (first_of g b) (count_of g b) ++ servers_text g (first_of g b) (count_of g b) servers

-- all blocks
unfoldable pub blocks_text : GridSeen → List Drawn → List ℕ
blocks_text g servers = flat_map (block_text g servers) (range_with_len 0 (blocks_of g))

-- a server is charged in the window
abbrev pub is_charged : Window → Drawn → Bool
is_charged w d = ltb 0 (counts_of w.from w.to d.chart.spans.items).charged

-- the legend of charged ticks, if there are any in the window
unfoldable pub charged_legend : Window → List Drawn → List ℕ
charged_legend w servers = if list_any (is_charged w) servers then CHARGED_LEGEND.now else []

-- the legend of the signs
unfoldable pub legend_text : GridSeen → Window → List Drawn → List ℕ
legend_text g w servers = codes "\n" ++ (if is_fine g then LEGEND.now else COLUMN_LEGEND.now) ++ charged_legend w servers

-- a timeline on a grid
unfoldable pub drawn_text : GridSeen → Picture → List ℕ
drawn_text g p =
    heading_text g (string_bytes p.file) ++ hidden_line (hidden_of p.window p.end) ++ left_out_line (left_out_of p.others)
    ++ blocks_text g p.servers.items ++ legend_text g p.window p.servers.items

-- the timeline of a picture
abbrev pub timeline_text : Picture → List ℕ
timeline_text p = drawn_text (grid_of p) p
