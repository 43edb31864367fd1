-- Which ticks a drawing can show.
use Rattle.std.specs.Prelude.{ℕ, ◌≤◌}
use Rattle.cbsrun_window.specs.Windows.{ticks_of}
use Rattle.cbsrun_window.specs.declared.window.Window.{Window}
use Rattle.cbsrun_options.specs.declared.actions.Drawing.{Drawing}
use Rattle.cbsrun_options.specs.declared.actions.Drawing.TheVariants.{Svg, Text, Trace}

-- how many ticks a drawing can show at a time: a trace all that a window can have, and the other drawings those of a short one
abbrev pub most_ticks : Drawing → ℕ
most_ticks Svg = 20000
most_ticks Text = 20000
most_ticks Trace = 18446744073709551615

-- a drawing can show the ticks of a window
abbrev pub Fits : Drawing → Window → Type 0
Fits drawing ticks = ticks_of ticks ≤ most_ticks drawing
