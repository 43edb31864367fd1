-- The words around the rows: the scale of ticks, the heading of a picture, its summary, and a sentence for each server.
use Rattle.std.specs.Prelude.{ℕ, ◌+◌, ◌-◌, ◌*◌, ◌/◌, Bool, leb, max, min, if◌then◌else◌, List, [], ◌∷◌, ◌++◌, codes, decimal, flat_map, map, unwrap_or, ◌%◌, false}
use Rattle.std.specs.Prelude.{◌&&◌, eqb, ltb, count_by, length, sum_by, Option, Some, None}
use Rattle.std.specs.Int.{div_ceil}
use Rattle.std.specs.List.{find, range_with_len}
use Rattle.cbsrun_window.specs.Counts.{told, counts_of}
use Rattle.cbsrun_window.specs.declared.window.Window.{Window}
use Rattle.cbsrun_svg_shapes.specs.Axes.{AxisSeen, right_of, x_at}
use Rattle.cbsrun_svg_shapes.specs.Spans.{from_to_text}
use Rattle.cbsrun_time_texts.specs.Texts.{amount_text, milliseconds_text, ticks_text}
use Rattle.cbsrun_svg_shapes.specs.Shapes.{label_text, upright_text}
use Rattle.cbsrun_text.specs.Numbers.{digits_of, mode_word}
use Rattle.cbsrun_chart.specs.Hidden.{hidden_of, hidden_text, left_out_of, left_out_text}
use Rattle.cbsrun_chart.specs.declared.hidden.Hidden.{Hidden}
use Rattle.cbsrun_chart.specs.declared.hidden.LeftOut.{LeftOut}
use Rattle.cbsrun_chart.specs.declared.jobs.ChartJob.{ChartJob}
use Rattle.cbsrun_chart.specs.declared.picture.Drawn.{Drawn}
use Rattle.cbsrun_chart.specs.declared.picture.Picture.{Picture}
use Rattle.cbsrun_window.specs.Windows.{ends_tick}
use Rattle.cbs_rate.specs.declared.bandwidth.Bandwidth.{Bandwidth}
use Rattle.cbsrun_figures.specs.Figures.{exceeds}
use Rattle.cbsrun_svg.specs.Rows.{charged_of, terms_text, units_of}

-- labels with this many letters have room if one stands every `step` ticks
abbrev pub has_room : AxisSeen → ℕ → ℕ → Bool
has_room a letters step = leb (700 * letters + 2000) (told (step * a.width) / max 1 a.cell)

-- the steps at which ticks are numbered
abbrev pub steps : List ℕ
steps = 1 ∷ 2 ∷ 5 ∷ 10 ∷ 20 ∷ 50 ∷ 100 ∷ 200 ∷ 500 ∷ 1000 ∷ 2000 ∷ 5000 ∷ 10000 ∷ 20000 ∷ 50000 ∷ []

-- the least step of ticks at which labels have room
abbrev pub step_of : AxisSeen → ℕ → ℕ
step_of a letters = unwrap_or (find (has_room a letters) steps) 50000

-- how many multiples of a step a window has; its end counts too
abbrev pub multiples : Window → ℕ → ℕ
multiples w step = told (w.to / max 1 step + 1) - div_ceil w.from (max 1 step)

-- a multiple of a step, by its place after the first multiple
abbrev pub multiple : ℕ → ℕ → ℕ → ℕ
multiple first step k = told (told (first + k) * step)

-- this many multiples of a step, from the first one on
unfoldable pub multiples_from : ℕ → ℕ → ℕ → List ℕ
multiples_from first step count = map (multiple first step) (range_with_len 0 count)

-- the multiples of a step in a window; its end counts too
abbrev pub numbered_ticks : Window → ℕ → List ℕ
numbered_ticks w step = multiples_from (div_ceil w.from (max 1 step)) step (multiples w step)

-- how many letters the number of a tick up to `to` has at most: in milliseconds, the digits of the whole ones at `to`, and
-- the letters of one tick after its first
abbrev pub letters_of : Option ℕ → ℕ → ℕ
letters_of None to = digits_of to
letters_of (Some n) to = digits_of (told (n * to / 1000000)) + min 20 (length (milliseconds_text n 1) - 1)

-- the ticks of a window that are numbered
abbrev pub ticks_numbered : Option ℕ → AxisSeen → Window → List ℕ
ticks_numbered n a w = numbered_ticks w (step_of a (letters_of n w.to))

-- upright lines at ticks
unfoldable pub uprights_text : AxisSeen → ℕ → ℕ → List ℕ → List ℕ
uprights_text a from to ts = flat_map (λ t. upright_text (x_at a t) from to) ts

-- a small mark at the tick of a place
abbrev pub small_mark : AxisSeen → ℕ → ℕ → List ℕ
small_mark a y k = upright_text (x_at a (told (a.from + k))) y (y + 300)

-- a small mark at every tick, if the cells are wide enough
unfoldable pub small_marks : AxisSeen → ℕ → List ℕ
small_marks a y = if leb 400 a.width then flat_map (small_mark a y) (range_with_len 0 (a.ticks + 1)) else []

-- the line of the scale, with its marks
unfoldable pub axis_text : AxisSeen → ℕ → List ℕ → List ℕ
axis_text a y ts =
    codes "<path class=\"axis\" d=\"M" ++ decimal a.left ++ codes " " ++ decimal y ++ codes "H" ++ decimal (right_of a) ++ small_marks a y
    ++ uprights_text a y (y + 600) ts ++ codes "\"/>\n"

-- the number of a tick, in milliseconds if the nanoseconds of a tick are known
unfoldable pub number_text : Option ℕ → AxisSeen → ℕ → ℕ → List ℕ
number_text n a y t = label_text (codes "c") (x_at a t) y (amount_text n t)

unfoldable pub numbers_text : Option ℕ → AxisSeen → ℕ → List ℕ → List ℕ
numbers_text n a y ts = flat_map (number_text n a y) ts

-- the unit of these numbers
abbrev pub unit_word : Option ℕ → List ℕ
unit_word None = codes "ticks"
unit_word (Some n) = codes "ms"

-- the scale, whose line is at `y`
unfoldable pub scale_text : Option ℕ → AxisSeen → ℕ → List ℕ → List ℕ
scale_text n a y ts = axis_text a y ts ++ numbers_text n a (y + 1900) ts ++ label_text (codes "m") 1600 (y + 1900) (unit_word n)

-- the ticks that are shown in milliseconds, too, if the nanoseconds of a tick are known
abbrev pub times_part : Option ℕ → Window → List ℕ
times_part None w = []
times_part (Some n) w = codes ", " ++ from_to_text (Some n) w.from w.to

-- the heading: the name of a file, and the ticks that are shown
unfoldable pub heading_text : Option ℕ → List ℕ → Window → List ℕ
heading_text n file w = file ++ codes ", " ++ from_to_text None w.from w.to ++ times_part n w

-- how many servers there are
abbrev pub servers_text : ℕ → List ℕ
servers_text n = if eqb n 1 then codes "1 server" else decimal n ++ codes " servers"

-- the reserved share of the time in tenths of a per cent, rounded, a half upward
abbrev pub tenths_of : Bandwidth → ℕ
tenths_of b = (2000 * b.ticks + b.of) / max 1 (2 * b.of)

-- how many units of all servers ran in the window
abbrev pub all_units : Window → List Drawn → ℕ
all_units w servers = told (sum_by (λ d. units_of w d.chart) servers)

-- how many ticks all servers were charged in the window
abbrev pub all_charged : Window → List Drawn → ℕ
all_charged w servers = told (sum_by (λ d. charged_of w d.chart) servers)

-- how many ticks were charged, if there are any
unfoldable pub charges_text : Option ℕ → ℕ → List ℕ
charges_text n charged = if eqb charged 0 then [] else ticks_text n charged ++ codes " charged, "

-- how many servers there are, what share of the time is reserved, how many units ran, and how many ticks were charged
-- and idle
unfoldable pub figures_text : Option ℕ → ℕ → Bandwidth → ℕ → ℕ → ℕ → List ℕ
figures_text n servers b units charged idle =
    servers_text servers ++ codes " with " ++ decimal (tenths_of b / 10) ++ codes "." ++ decimal (tenths_of b % 10) ++ codes " % of the time reserved. "
    ++ decimal units ++ codes " units run, " ++ charges_text n charged ++ ticks_text n idle ++ codes " idle."

-- how many ticks of the run are not shown, if there are any
abbrev pub hidden_part : Option Hidden → List ℕ
hidden_part None = []
hidden_part (Some h) = codes " " ++ hidden_text h

-- how many servers are not drawn, if there are any
abbrev pub left_out_part : Option LeftOut → List ℕ
left_out_part None = []
left_out_part (Some o) = codes " " ++ left_out_text o

-- how many ticks a column has, if it has more than one
unfoldable pub column_text : Option ℕ → ℕ → List ℕ
column_text n cell = if ltb 1 cell then codes " Each column is " ++ ticks_text n cell ++ codes "." else []

-- the line below the heading
unfoldable pub summary_text : Picture → ℕ → List ℕ
summary_text p cell =
    figures_text p.tick (length p.servers.items) p.reserved (all_units p.window p.servers.items) (all_charged p.window p.servers.items)
    (counts_of p.window.from p.window.to p.idle.items).idle
    ++ hidden_part (hidden_of p.window p.end) ++ left_out_part (left_out_of p.others) ++ column_text p.tick cell

-- the job was finished late in the window
abbrev pub is_late_at : Window → ChartJob → Option ℕ → Bool
is_late_at w job None = false
is_late_at w job (Some finish) = ends_tick w finish && exceeds (finish - job.came) job.within

abbrev pub is_late : Window → ChartJob → Bool
is_late w job = is_late_at w job job.finish

-- how many ticks a server was charged, if there are any
unfoldable pub was_charged_text : Option ℕ → ℕ → List ℕ
was_charged_text n charged = if eqb charged 0 then [] else codes ", was charged " ++ ticks_text n charged

-- a server's name, mode and reservation, how many of its units ran, and how many ticks it was charged
unfoldable pub who_text : Option ℕ → List ℕ → List ℕ → List ℕ → ℕ → ℕ → List ℕ
who_text n name mode terms units charged =
    name ++ codes ", " ++ mode ++ codes ", " ++ terms ++ codes ": ran " ++ decimal units ++ codes " units" ++ was_charged_text n charged

-- how many of its jobs came, were refused, were finished, and were late
unfoldable pub came_text : ℕ → ℕ → ℕ → ℕ → List ℕ
came_text came refused finished late =
    codes "; " ++ decimal came ++ codes " jobs came, " ++ decimal refused ++ codes " refused, " ++ decimal finished ++ codes " finished, " ++ decimal late
    ++ codes " of those late.\n"

-- the sentence that says what a picture shows of a server
unfoldable pub sentence_text : Option ℕ → Window → List ℕ → Drawn → List ℕ
sentence_text n w name d =
    who_text n name (mode_word d.mode) (terms_text n d.reservation) (units_of w d.chart) (charged_of w d.chart)
    ++ came_text (told (length d.chart.arrivals.items + d.chart.refusals)) d.chart.refusals (length d.chart.completions.items)
    (count_by (is_late w) d.chart.jobs.items)
