-- The ticks that the columns of a timeline stand for, the sign of a column in the row of a server, and the mark above it.
use Rattle.std.specs.Prelude.{ℕ, ◌+◌, ◌-◌, ◌*◌, ◌/◌, ◌<◌, ◌≤◌, Bool, eqb, leb, if◌then◌else◌, max, min, List, [], ◌∷◌, length, string_bytes, ◌%◌, true, false}
use Rattle.std.specs.Prelude.{◌&&◌, ltb, Option, Some, None}
use Rattle.std.specs.Int.{div_ceil}
use Rattle.cbsrun_window.specs.Counts.{told, counts_of}
use Rattle.cbsrun_window.specs.Windows.{ticks_of}
use Rattle.cbsrun_chart.specs.declared.picture.Drawn.{Drawn}
use Rattle.cbsrun_chart.specs.declared.picture.Picture.{Picture}
use Rattle.cbsrun_text.specs.Numbers.{digits_of}
use Rattle.cbsrun_time_texts.specs.Texts.{milliseconds_text}
use Rattle.std.specs.List.{find, list_any}
use Rattle.cbsrun_chart.specs.Rows.{next_tick}
use Rattle.cbsrun_window.specs.Stretches.{takes}
use Rattle.cbsrun_chart.specs.declared.chart.ServerChart.{ServerChart}
use Rattle.cbsrun_window.specs.declared.counts.Counts.{Counts}
use Rattle.cbsrun_chart.specs.declared.course.Corner.{Corner}
use Rattle.cbsrun_window.specs.declared.stretch.Kind.{Kind}
use Rattle.cbsrun_window.specs.declared.stretch.Kind.TheVariants as kind
use Rattle.cbsrun_window.specs.declared.stretch.Stretch.{Stretch}

-- a grid: the nanoseconds of a tick, if they are known, the width of names, the columns of a block, and the columns from
-- one numbered tick to the next. Also the first tick, the tick after the last one, and the ticks of a column
pub record GridSeen : Type 0 where
  pub nanoseconds : Option ℕ
  pub width : ℕ
  pub plot : ℕ
  pub step : ℕ
  pub from : ℕ
  pub to : ℕ
  pub cell : ℕ

-- a grid is within these limits
pub record IsGrid (plot step from to cell : ℕ) : Type 0 where
  pub wide : 10 ≤ plot
  pub narrow : plot ≤ 60
  pub apart : 10 ≤ step
  pub near : step ≤ 30
  pub short : to ≤ from + 20000
  pub some : 0 < cell
  pub fine : cell ≤ 20000

-- the width of the widest name
abbrev pub width_of : List Drawn → ℕ
width_of [] = 0
width_of (d ∷ ds) = max (length (string_bytes d.name)) (width_of ds)

-- how many columns a block has: 60, or fewer by tens, but at least 10. A line has a name, two blanks, the columns and a
-- number at its end. With fewer columns it has at most 80 letters, if the name has room
abbrev pub plot_of : ℕ → ℕ → ℕ
plot_of width letters = max 10 (min 60 ((78 - width - letters) / 10 * 10))

-- the number of columns from one numbered tick to the next: the least multiple of ten that has room for the letters and
-- a blank
abbrev pub step_of : ℕ → ℕ
step_of letters = 10 * (1 + letters / 10)

-- how many letters the number of a tick up to `to` has at most: in milliseconds, the digits of the whole ones at `to`, and
-- the letters of one tick after its first
abbrev pub letters_of : Option ℕ → ℕ → ℕ
letters_of None to = digits_of to
letters_of (Some n) to = digits_of (told (n * to / 1000000)) + min 9 (length (milliseconds_text n 1) - 1)

-- how many ticks a column has: one if there are at most 240 ticks, else so many that one block shows all
abbrev pub cell_of : ℕ → ℕ → ℕ
cell_of ticks plot = if leb ticks 240 then 1 else div_ceil ticks plot

-- the grid of a picture
abbrev pub grid_of : Picture → GridSeen
grid_of p = record {
  nanoseconds = p.tick;
  width = width_of p.servers.items;
  plot = plot_of (width_of p.servers.items) (letters_of p.tick p.window.to);
  step = step_of (letters_of p.tick p.window.to);
  from = p.window.from;
  to = p.window.to;
  cell = cell_of (ticks_of p.window) (plot_of (width_of p.servers.items) (letters_of p.tick p.window.to));
}

-- each column is one tick
abbrev pub is_fine : GridSeen → Bool
is_fine g = eqb g.cell 1

-- the first tick of column i, at most 2^64 - 1
abbrev pub tick_of : GridSeen → ℕ → ℕ
tick_of g i = told (g.from + i * g.cell)

-- the tick after the last one of column i
abbrev pub end_of : GridSeen → ℕ → ℕ
end_of g i = min g.to (tick_of g (i + 1))

-- how many columns there are
abbrev pub columns_of : GridSeen → ℕ
columns_of g = div_ceil (g.to - g.from) g.cell

-- how many blocks there are
abbrev pub blocks_of : GridSeen → ℕ
blocks_of g = div_ceil (columns_of g) g.plot

-- the first column of block b, and how many it has
abbrev pub first_of : GridSeen → ℕ → ℕ
first_of g b = b * g.plot

abbrev pub count_of : GridSeen → ℕ → ℕ
count_of g b = min g.plot (columns_of g - first_of g b)

-- ' ': nothing
abbrev pub blank : ℕ
blank = 32

-- '.': the server has a job, and another runs
abbrev pub waits_sign : ℕ
waits_sign = 46

-- '/': the server has a job, and is throttled
abbrev pub throttled_sign : ℕ
throttled_sign = 47

-- '$': the server is charged for its last unit
abbrev pub charged_sign : ℕ
charged_sign = 36

-- '#': the server runs in all ticks of a column
abbrev pub all_sign : ℕ
all_sign = 35

-- '+': the server runs in fewer than a tenth of the ticks of a column
abbrev pub fewer_sign : ℕ
fewer_sign = 43

-- '^': a job comes
abbrev pub comes_mark : ℕ
comes_mark = 94

-- 'v': a deadline of the server
abbrev pub deadline_mark : ℕ
deadline_mark = 118

-- '*': a job comes at a deadline
abbrev pub both_mark : ℕ
both_mark = 42

-- 'x': a release is refused
abbrev pub refused_mark : ℕ
refused_mark = 120

-- '!': a job is late
abbrev pub late_mark : ℕ
late_mark = 33

-- a unit that ends at tick t used up the budget: the budget is 0 at a corner there
abbrev pub is_used_up : ℕ → List Corner → Bool
is_used_up t corners = list_any (λ c. eqb c.tick t && eqb c.budget 0) corners

-- the letter of job j, by its number: a capital if the unit used up the budget
abbrev pub letter_of : ℕ → Bool → ℕ
letter_of j true = 65 + j % 26
letter_of j false = 97 + j % 26

-- the sign of a tick in a stretch of this kind, by whether a unit in the tick used up the budget
abbrev pub kind_sign : Kind → Bool → ℕ
kind_sign (kind.Runs j) used_up = letter_of j used_up
kind_sign kind.Charged _ = charged_sign
kind_sign kind.Throttled _ = throttled_sign
kind_sign kind.Waits _ = waits_sign
kind_sign _ _ = blank

-- the sign of a tick that this stretch takes, or a blank if none takes it
abbrev pub stretch_sign : Option Stretch → Bool → ℕ
stretch_sign None _ = blank
stretch_sign (Some p) used_up = kind_sign p.kind used_up

-- the sign of what a server does in tick t
abbrev pub tick_sign : ServerChart → ℕ → ℕ
tick_sign c t = stretch_sign (find (takes t) c.spans.items) (is_used_up (next_tick t) c.corners.items)

-- the mark above a tick, by whether a job comes at it and whether it is a deadline of the server
abbrev pub mark_of : Bool → Bool → ℕ
mark_of true true = both_mark
mark_of true false = comes_mark
mark_of false true = deadline_mark
mark_of false false = blank

-- tick t is among these ticks
abbrev pub is_among : ℕ → List ℕ → Bool
is_among t ts = list_any (λ u. eqb u t) ts

-- the mark above tick t. A refused job takes precedence
abbrev pub tick_mark : ServerChart → ℕ → ℕ
tick_mark c t =
    if list_any (takes t) c.refused.items then refused_mark else mark_of (is_among t c.arrivals.items) (is_among t c.deadlines.items)

-- the sign of a column, by how many of its ticks ran: all, a number of tenths, rounded down, or fewer than a tenth
abbrev pub run_sign : ℕ → ℕ → ℕ
run_sign runs ticks = if leb ticks runs then all_sign else if ltb (runs * 10) ticks then fewer_sign else 48 + runs * 10 / ticks

-- the sign of what a server does in a column with this many ticks, by their counts. Ticks in which it ran take
-- precedence
abbrev pub count_sign : ℕ → Counts → ℕ
count_sign ticks n =
    if ltb 0 n.runs then run_sign n.runs ticks
    else if ltb 0 n.throttled then throttled_sign
    else if ltb 0 n.waits then waits_sign
    else blank

-- the mark above a column, by how many of its ticks have a refused job, have a late job, and are charged
abbrev pub count_mark : ℕ → ℕ → ℕ → ℕ
count_mark refused late charged =
    if ltb 0 refused then refused_mark
    else if ltb 0 late then late_mark
    else if ltb 0 charged then charged_sign
    else blank

-- the sign of what a server does in column i
abbrev pub column_sign : GridSeen → ServerChart → ℕ → ℕ
column_sign g c i =
    if is_fine g then tick_sign c (tick_of g i)
    else count_sign (end_of g i - tick_of g i) (counts_of (tick_of g i) (end_of g i) c.spans.items)

-- the mark above column i
abbrev pub column_mark : GridSeen → ServerChart → ℕ → ℕ
column_mark g c i =
    if is_fine g then tick_mark c (tick_of g i)
    else
    count_mark
    (counts_of (tick_of g i) (end_of g i) c.refused.items).refused
    (counts_of (tick_of g i) (end_of g i) c.late.items).late
    (counts_of (tick_of g i) (end_of g i) c.spans.items).charged
