-- The row of a server.
use Rattle.std.specs.Prelude.{ℕ, ◌+◌, ◌-◌, true, eqb, if◌then◌else◌, List, [], ◌++◌, codes, decimal, flat_map, length, Option}
use Rattle.cbsrun_window.specs.Counts.{counts_of}
use Rattle.cbsrun_chart.specs.declared.chart.ServerChart.{ServerChart}
use Rattle.cbsrun_window.specs.declared.counts.Counts.{Counts}
use Rattle.cbsrun_chart.specs.declared.picture.Drawn.{Drawn}
use Rattle.cbsrun_window.specs.declared.stretch.Stretch.{Stretch}
use Rattle.cbsrun_window.specs.declared.window.Window.{Window}
use Rattle.cbs_rate.specs.Rate.{Rate}
use Rattle.cbs_rules.specs.declared.mode.Mode.{Mode}
use Rattle.cbsrun_svg_shapes.specs.Axes.{AxisSeen, right_of}
use Rattle.cbsrun_svg_shapes.specs.Columns.{cell_counts, columns_shape, heights_of}
use Rattle.cbsrun_svg_shapes.specs.declared.layout.Layout.{Layout}
use Rattle.cbsrun_svg_shapes.specs.Marks.{arrivals_path, budget_text, completions_path, deadlines_path, refused_path}
use Rattle.cbsrun_svg_shapes.specs.Shapes.{label_text, path_text, titled_text}
use Rattle.cbsrun_svg_shapes.specs.Spans.{bar_class, from_to_text, late_text, pale_path, span_text}
use Rattle.cbsrun_svg_shapes.specs.declared.columns.Layer.{Layer}
use Rattle.cbsrun_svg_shapes.specs.declared.columns.Layer.TheVariants as layer
use Rattle.cbsrun_text.specs.Numbers.{mode_word}
use Rattle.cbsrun_time_texts.specs.Texts.{time_text}

-- how many units ran in a window
abbrev pub units_of : Window → ServerChart → ℕ
units_of w c = (counts_of w.from w.to c.spans.items).runs

-- how many ticks a server was charged in a window
abbrev pub charged_of : Window → ServerChart → ℕ
charged_of w c = (counts_of w.from w.to c.spans.items).charged

-- how far down the texts beside a bar stand
abbrev pub text_line : Layout → ℕ
text_line l = if l.compact then l.bar + l.height - 30 else l.bar + l.height - 400

-- a reservation in its long and in its short form
unfoldable pub terms_text : Option ℕ → Rate → List ℕ
terms_text n r = time_text n r.budget ++ codes " in every " ++ time_text n r.period

unfoldable pub short_terms_text : Option ℕ → Rate → Mode → List ℕ
short_terms_text n r mode = time_text n r.budget ++ codes " in " ++ time_text n r.period ++ codes " " ++ mode_word mode

-- the name, the reservation and the mode of a server
unfoldable pub names_text : Option ℕ → AxisSeen → Layout → List ℕ → Rate → Mode → List ℕ
names_text n a l name r mode =
    if l.compact
    then label_text (codes "k") 1600 (text_line l) name ++ label_text (codes "m r") (a.left - 1200) (text_line l) (short_terms_text n r mode)
    else label_text (codes "n") 1600 2100 name ++ label_text (codes "m") 1600 3600 (terms_text n r) ++ label_text (codes "m") 1600 5000 (mode_word mode)

-- how many units ran, and below that how many ticks were charged, if there are any
unfoldable pub units_text : AxisSeen → Layout → ℕ → ℕ → List ℕ
units_text a l units charged =
    if eqb charged 0 then label_text (codes "u") (right_of a + 5700) (text_line l) (decimal units)
    else
    label_text (codes "u") (right_of a + 5700) (text_line l - 600) (decimal units)
    ++ label_text (codes "m r") (right_of a + 5700) (text_line l + 500) (codes "+ " ++ decimal charged)

-- the line of a row
unfoldable pub line_text : AxisSeen → Layout → List ℕ
line_text a l =
    codes "<path class=\"" ++ (if l.compact then codes "line" else codes "axis") ++ codes "\" d=\"M" ++ decimal a.left ++ codes " " ++ decimal l.line
    ++ codes "H" ++ decimal (right_of a) ++ codes "\"/>\n"

-- all stretches of what a server does, drawn tick by tick
unfoldable pub spans_text : Option ℕ → AxisSeen → Layout → List ℕ → Mode → ServerChart → List ℕ
spans_text n a l name mode c = flat_map (λ p. span_text n a l mode name c.jobs.items p.kind p) c.spans.items

-- all ticks in which a job is late
unfoldable pub lates_text : Option ℕ → AxisSeen → Layout → List ℕ → List Stretch → List ℕ
lates_text n a l name ps = flat_map (late_text n a l name) ps

-- the marks of a server: refused and finished jobs, jobs that come, and deadlines
unfoldable pub marks_text : AxisSeen → Layout → ServerChart → List ℕ
marks_text a l c =
    refused_path a l c.refused.items ++ completions_path a l c.completions.items ++ arrivals_path a l c.arrivals.items ++ deadlines_path a l c.deadlines.items

-- a row that is drawn tick by tick
unfoldable pub fine_text : Option ℕ → AxisSeen → Layout → List ℕ → Mode → Drawn → List ℕ
fine_text n a l name mode d =
    pale_path a l d.chart.spans.items ++ budget_text n a l d.reservation.budget d.chart.opening d.chart.corners.items ++ line_text a l
    ++ spans_text n a l name mode d.chart ++ lates_text n a l name d.chart.late.items ++ marks_text a l d.chart

-- the columns of a layer, which stand on the line `base` and are at most `whole` high
unfoldable pub layer_shape : AxisSeen → ℕ → ℕ → Layer → List Counts → List ℕ
layer_shape a base whole layer cs = columns_shape a base (heights_of a whole layer cs)

unfoldable pub layer_text : AxisSeen → ℕ → ℕ → Layer → List ℕ → List Counts → List ℕ
layer_text a base whole layer class cs = path_text class (layer_shape a base whole layer cs)

-- the columns of charged ticks, if there are any
unfoldable pub charged_text : AxisSeen → Layout → Window → ServerChart → List Counts → List ℕ
charged_text a l w c cs =
    if eqb (charged_of w c) 0 then [] else layer_text a (l.bar + l.height) l.height layer.Charged (codes "fee") cs

-- the title of a server's units: its name, how many units ran, and in which ticks
unfoldable pub units_title : Option ℕ → List ℕ → ℕ → Window → List ℕ
units_title n name units w = name ++ codes ": " ++ decimal units ++ codes " units in " ++ from_to_text n w.from w.to

-- what a server does, in columns. The bottom layer, whose columns are the tallest, comes first, and the units come
-- last, on top
unfoldable pub bars_text : Option ℕ → AxisSeen → Layout → Window → List ℕ → Mode → ServerChart → List Counts → List ℕ
bars_text n a l w name mode c cs =
    layer_text a (l.bar + l.height) l.height layer.Active (codes "wait") cs ++ layer_text a (l.bar + l.height) l.height layer.Throttled (codes "hatch") cs
    ++ charged_text a l w c cs
    ++ titled_text (bar_class mode true) (layer_shape a (l.bar + l.height) l.height layer.Runs cs) (units_title n name (units_of w c) w)

-- a band over the cells that stretches take, and nothing if there is no stretch
unfoldable pub band_text : AxisSeen → ℕ → ℕ → Layer → List Stretch → List ℕ
band_text a base whole layer ps = if eqb (length ps) 0 then [] else layer_text a base whole layer (codes "band") (cell_counts a ps)

-- a row that is drawn in columns. Refused releases are above the bars, and late jobs are below them
unfoldable pub dense_text : Option ℕ → AxisSeen → Layout → Window → List ℕ → Mode → ServerChart → List ℕ
dense_text n a l w name mode c =
    bars_text n a l w name mode c (cell_counts a c.spans.items) ++ line_text a l
    ++ band_text a (l.bar - 100) 300 layer.Refused c.refused.items ++ band_text a (l.bar + l.height + l.lane) l.lane layer.Late c.late.items

-- the content of a row, drawn in columns or tick by tick
abbrev pub inside_text : Option ℕ → AxisSeen → Layout → Window → List ℕ → Mode → Drawn → List ℕ
inside_text n a l w name mode d = if l.dense then dense_text n a l w name mode d.chart else fine_text n a l name mode d

-- the row of a server, whose top edge is at `top`
unfoldable pub row_text : Option ℕ → AxisSeen → Layout → Window → ℕ → List ℕ → Mode → Drawn → List ℕ
row_text n a l w top name mode d =
    codes "<g transform=\"translate(0 " ++ decimal top ++ codes ")\">\n" ++ names_text n a l name d.reservation mode
    ++ units_text a l (units_of w d.chart) (charged_of w d.chart)
    ++ inside_text n a l w name mode d ++ codes "</g>\n"
