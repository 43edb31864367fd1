-- The places of ticks.
use Rattle.std.specs.Prelude.{ℕ, ◌+◌, ◌-◌, ◌*◌, ◌/◌, ◌<◌, ◌≤◌, Bool, leb, max, min}
use Rattle.std.specs.Int.{div_ceil}
use Rattle.cbsrun_window.specs.Counts.{told}
use Rattle.cbsrun_window.specs.Windows.{ticks_of}
use Rattle.cbsrun_window.specs.declared.window.Window.{Window}

-- an axis: its left edge, the first tick, the number of ticks, the ticks of a cell, the number of cells, and the width
-- of a cell
pub record AxisSeen : Type 0 where
  pub left : ℕ
  pub from : ℕ
  pub ticks : ℕ
  pub cell : ℕ
  pub cells : ℕ
  pub width : ℕ

-- an axis is within these limits
pub record IsAxis (left ticks cell cells width : ℕ) : Type 0 where
  pub near : left ≤ 100000
  pub short : ticks ≤ 20000
  pub some : 0 < cell
  pub fine : cell ≤ 20000
  pub few : cells ≤ 1000
  pub narrow : width ≤ 5000

-- how many ticks a cell has if there are n ticks: one if there are at most 1000
abbrev pub cell_of : ℕ → ℕ
cell_of n = max 1 (div_ceil n 1000)

-- how many cells there are for n ticks
abbrev pub cells_of : ℕ → ℕ
cells_of n = max 1 (min 1000 (div_ceil n (cell_of n)))

-- the axis of a window
abbrev pub axis_of : Window → ℕ → AxisSeen
axis_of w left = record {
  left = left;
  from = w.from;
  ticks = ticks_of w;
  cell = cell_of (ticks_of w);
  cells = cells_of (ticks_of w);
  width = min 5000 (100000 / cells_of (ticks_of w));
}

-- the place at which a tick begins
unfoldable pub x_at : AxisSeen → ℕ → ℕ
x_at a t = a.left + min (t - a.from) a.ticks * a.width / a.cell

-- the place at which a cell begins
abbrev pub x_of_cell : AxisSeen → ℕ → ℕ
x_of_cell a i = a.left + min i a.cells * a.width

-- the right edge
abbrev pub right_of : AxisSeen → ℕ
right_of a = a.left + a.cells * a.width

-- cells are at least 5 pixels wide, so an outline leaves some of a cell free
abbrev pub is_wide : AxisSeen → Bool
is_wide a = leb 500 a.width

-- the first tick of a cell, at most 2^64 - 1
abbrev pub tick_of_cell : AxisSeen → ℕ → ℕ
tick_of_cell a i = told (a.from + i * a.cell)
