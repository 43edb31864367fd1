use Rattle.std.proofs.Common.{◌≡◌, ◌++◌, ◌+◌, string_bytes}
use Rattle.std.specs.List.{flat_map, range_with_len}
use Rattle.cbsrun_svg_shapes.specs.Marks.{refusal_text}
use Rattle.cbsrun_svg_shapes.proofs.marks.append_crosses.Given as goal

abbrev pub invariant-loop-place : goal.invariant-loop-place
invariant-loop-place l =
    string_bytes l.shape ≡ string_bytes l.fn.shape ++ flat_map (λ k. refusal_text l.axis l.layout (l.refused.from + k)) (range_with_len 0 l.place)
