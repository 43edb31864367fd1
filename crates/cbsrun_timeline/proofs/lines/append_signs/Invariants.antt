use Rattle.std.proofs.Common.{◌≡◌, ◌+◌, ◌++◌, map, string_bytes}
use Rattle.std.specs.List.{range_with_len}
use Rattle.cbsrun_timeline.specs.Signs.{column_sign}
use Rattle.cbsrun_timeline.proofs.lines.append_signs.Given as goal

abbrev pub invariant-loop-place : goal.invariant-loop-place
invariant-loop-place l =
    string_bytes l.text ≡ string_bytes l.fn.text ++ map (λ k. column_sign l.grid l.chart (l.first + k)) (range_with_len 0 l.place)
