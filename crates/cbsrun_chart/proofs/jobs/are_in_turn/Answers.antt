use Rattle.std.proofs.Common.{refl}
use Rattle.cbsrun_chart.proofs.Numbers.{is_apart, is_next, not_in_turn, numbered_more}
use Rattle.cbsrun_chart.proofs.jobs.are_in_turn.Goals as goal

pub returns-then-ne : goal.returns-then-ne
returns-then-ne c =
    not_in_turn c.args.jobs.now c.in-Some.first.now c.loop-place.place _ c.in-Some.ensures.value c.loop-place-test.true
    (is_apart c.checked_sub.result _ _ _ c.checked_sub.ensures (rw (← c.ne.ensures) c.if-ne.true)) _ refl

pub loop-place-preserved : goal.loop-place-preserved
loop-place-preserved c =
    numbered_more c.in-Some.first.now.number c.args.jobs.now c.loop-place.place _ c.loop-place-test.true c.loop-place.invariant
    (is_next c.checked_sub.result _ _ _ c.checked_sub.ensures (rw (← c.ne.ensures) c.if-ne.false))
