use Rattle.std.proofs.Common.{ℕ, ◌+◌}
use Rattle.cbsrun_perfetto.specs.Traces.{refused_line}
use Rattle.cbsrun_perfetto.proofs.Growing.{value_more}
use Rattle.cbsrun_perfetto.proofs.marks.append_refusals_in.Goals as goal

pub loop-place-preserved : goal.loop-place-preserved
loop-place-preserved c =
    value_more (λ (k : ℕ). refused_line c.args.thread (c.args.refused.now.from + k)) _ _ _ _ c.loop-place.place c.in_ok-append_line.ensures
    c.in_ok-refused_line.ensures c.loop-place.invariant
