use Rattle.std.proofs.Common.{◌≡◌, ◌+◌, map, string_bytes}
use Rattle.std.specs.List.{range_with_len}
use Rattle.cbsrun_timeline.specs.Signs.{column_mark}
use Rattle.cbsrun_timeline.proofs.lines.marks_text.Given as goal

abbrev pub invariant-loop-place : goal.invariant-loop-place
invariant-loop-place l = string_bytes l.text ≡ map (λ k. column_mark l.grid l.chart (l.first + k)) (range_with_len 0 l.place)
