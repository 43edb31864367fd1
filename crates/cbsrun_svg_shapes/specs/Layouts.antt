-- The places of the parts of a row, from its top.
use Rattle.std.specs.Prelude.{ℕ, true, false, ltb, leb, if◌then◌else◌, refl}
use Rattle.cbsrun_svg_shapes.specs.Axes.{AxisSeen}
use Rattle.cbsrun_svg_shapes.specs.declared.layout.Layout.{Layout}

-- the layouts: of up to 8 servers with a cell of one tick, without budgets and with them; of cells of several ticks; of
-- more servers
abbrev pub roomy : Layout
roomy = record { compact = false; dense = false; budgets = false; top = 300; bar = 1400; height = 1800; lane = 400; line = 3600; tip = 4700; row = 6100; within = refl }

abbrev pub with_budgets : Layout
with_budgets = record { compact = false; dense = false; budgets = true; top = 300; bar = 1400; height = 1800; lane = 400; line = 3600; tip = 4700; row = 7700; within = refl }

abbrev pub roomy_columns : Layout
roomy_columns = record { compact = false; dense = true; budgets = false; top = 300; bar = 1400; height = 2900; lane = 400; line = 4700; tip = 4700; row = 6100; within = refl }

abbrev pub compact : Layout
compact = record { compact = true; dense = false; budgets = false; top = 100; bar = 600; height = 900; lane = 200; line = 1700; tip = 2200; row = 2600; within = refl }

abbrev pub compact_columns : Layout
compact_columns = record { compact = true; dense = true; budgets = false; top = 100; bar = 600; height = 1400; lane = 200; line = 2200; tip = 2200; row = 2600; within = refl }

-- the layout for this many servers
abbrev pub layout_of : ℕ → AxisSeen → Layout
layout_of servers a =
    if ltb 8 servers then (if ltb 1 a.cell then compact_columns else compact)
    else if ltb 1 a.cell then roomy_columns
    else if leb 250 a.width then with_budgets
    else roomy
