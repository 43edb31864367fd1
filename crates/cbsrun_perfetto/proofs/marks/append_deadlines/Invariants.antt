use Rattle.std.proofs.Common.{◌≡◌, ◌++◌, map, take}
use Rattle.cbsrun_perfetto.specs.Traces.{deadline_line}
use Rattle.cbsrun_perfetto.proofs.marks.append_deadlines.Given as goal

abbrev pub invariant-loop-tick : goal.invariant-loop-tick
invariant-loop-tick l = l.lines.items ≡ l.fn.lines.items ++ map (deadline_line l.thread) (take l.tick-index l.ticks)
