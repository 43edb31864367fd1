-- What a picture does not show of a run.
use Rattle.std.specs.Prelude.{ℕ, ◌-◌, Bool, ◌&&◌, eqb, leb, if◌then◌else◌, List, ◌++◌, codes, decimal, Option, Some, None}
use Rattle.cbsrun_chart.specs.declared.hidden.Hidden.{Hidden}
use Rattle.cbsrun_chart.specs.declared.hidden.LeftOut.{LeftOut}
use Rattle.cbsrun_window.specs.declared.window.Window.{Window}

-- the window shows a whole run, which ends at this tick
abbrev pub is_whole : Window → ℕ → Bool
is_whole w end = eqb w.from 0 && leb end w.to

-- the ticks of a run, which ends at this tick, that are before the window and after it, unless the window shows all
abbrev pub hidden_of : Window → ℕ → Option Hidden
hidden_of w end = if is_whole w end then None else Some (record { before = w.from; after = end - w.to })

-- how many ticks are not shown, in words
unfoldable pub hidden_text : Hidden → List ℕ
hidden_text h = codes "Not shown: " ++ decimal h.before ++ codes " ticks before, " ++ decimal h.after ++ codes " after."

-- the servers of a run that a picture does not draw, if there are any
abbrev pub left_out_of : ℕ → Option LeftOut
left_out_of others = if eqb others 0 then None else Some (record { servers = others })

-- how many servers are not drawn, in words
unfoldable pub left_out_text : LeftOut → List ℕ
left_out_text o = if eqb o.servers 1 then codes "Not shown: 1 server." else codes "Not shown: " ++ decimal o.servers ++ codes " servers."
