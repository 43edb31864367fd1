use Rattle.cbsrun_perfetto.specs.Traces.{change_at}
use Rattle.cbsrun_perfetto.proofs.Growing.{piece_more}
use Rattle.cbsrun_perfetto.proofs.marks.append_changes.Goals as goal

pub loop-place-preserved : goal.loop-place-preserved
loop-place-preserved c =
    piece_more (change_at c.args.name.now c.args.thread c.args.opening c.args.corners.now) _ _ _ c.loop-place.place c.in_ok-append_change.ensures
    c.loop-place.invariant
