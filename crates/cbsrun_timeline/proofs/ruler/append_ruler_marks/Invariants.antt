use Rattle.std.proofs.Common.{◌≡◌, ◌++◌, map, string_bytes}
use Rattle.std.specs.List.{range_with_len}
use Rattle.cbsrun_timeline.specs.Timelines.{ruler_sign}
use Rattle.cbsrun_timeline.proofs.ruler.append_ruler_marks.Given as goal

abbrev pub invariant-loop-place : goal.invariant-loop-place
invariant-loop-place l = string_bytes l.text ≡ string_bytes l.fn.text ++ map ruler_sign (range_with_len 0 l.place)
