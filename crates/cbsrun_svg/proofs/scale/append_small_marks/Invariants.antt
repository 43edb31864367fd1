use Rattle.std.proofs.Common.{◌≡◌, ◌++◌, string_bytes}
use Rattle.std.specs.List.{flat_map, range_with_len}
use Rattle.cbsrun_svg.specs.Heads.{small_mark}
use Rattle.cbsrun_svg.proofs.scale.append_small_marks.Given as goal

abbrev pub invariant-loop-place : goal.invariant-loop-place
invariant-loop-place l = string_bytes l.shape ≡ string_bytes l.fn.shape ++ flat_map (small_mark l.axis l.y) (range_with_len 0 l.place)
