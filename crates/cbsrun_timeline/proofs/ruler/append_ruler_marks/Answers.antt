use Rattle.cbsrun_timeline.specs.Timelines.{ruler_sign}
use Rattle.cbsrun_timeline.proofs.Growing.{sign_more}
use Rattle.cbsrun_timeline.proofs.ruler.append_ruler_marks.Goals as goal

pub loop-place-preserved : goal.loop-place-preserved
loop-place-preserved c =
    sign_more ruler_sign _ _ _ _ _ c.loop-place.place c.in_ok-push.ensures.bytes (c.in_ok-push.ensures.ascii c.ruler_sign.ensures.ascii)
    c.ruler_sign.ensures.value c.loop-place.invariant
