use Rattle.std.proofs.Common.{◌≡◌, ◌++◌}
use Rattle.std.specs.List.{flat_map, range_with_len}
use Rattle.cbsrun_perfetto.specs.Traces.{change_at}
use Rattle.cbsrun_perfetto.proofs.marks.append_changes.Given as goal

abbrev pub invariant-loop-place : goal.invariant-loop-place
invariant-loop-place l =
    l.lines.items ≡ l.fn.lines.items ++ flat_map (change_at l.name l.thread l.opening l.corners) (range_with_len 0 l.place)
