use Rattle.std.proofs.Common.{ℕ, ◌+◌, []}
use Rattle.cbsrun_timeline.specs.Signs.{column_mark}
use Rattle.cbsrun_timeline.proofs.Growing.{sign_more}
use Rattle.cbsrun_timeline.proofs.lines.marks_text.Goals as goal

pub loop-place-preserved : goal.loop-place-preserved
loop-place-preserved c =
    sign_more (λ (k : ℕ). column_mark c.args.grid.now c.args.chart.now (c.args.first + k)) [] _ _ _ _ c.loop-place.place c.in_ok-push.ensures.bytes
    (c.in_ok-push.ensures.ascii c.column_mark.ensures.ascii) c.column_mark.ensures.value c.loop-place.invariant
