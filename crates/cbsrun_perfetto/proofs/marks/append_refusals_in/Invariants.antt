use Rattle.std.proofs.Common.{◌≡◌, ◌+◌, ◌++◌, map}
use Rattle.std.specs.List.{range_with_len}
use Rattle.cbsrun_perfetto.specs.Traces.{refused_line}
use Rattle.cbsrun_perfetto.proofs.marks.append_refusals_in.Given as goal

abbrev pub invariant-loop-place : goal.invariant-loop-place
invariant-loop-place l = l.lines.items ≡ l.fn.lines.items ++ map (λ k. refused_line l.thread (l.refused.from + k)) (range_with_len 0 l.place)
