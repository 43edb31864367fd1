use Rattle.std.proofs.Common.{sym, ◌∙◌}
use Rattle.std.proofs.Math.ListN.{drop_of_length-le}
use Rattle.cbsrun_entries.proofs.Gaps.{ascends_on, ascends_not}
use Rattle.cbsrun_entries.proofs.listed.is_ascending.Goals as goal

pub returns-then-tick-before : goal.returns-then-tick-before
returns-then-tick-before c =
    sym (ascends_not c.loop-tick.before c.loop-tick.tick-index c.args.others.now c.loop-tick-test.true c.if-tick-before.true) ∙ c.loop-tick.invariant

pub loop-tick-preserved : goal.loop-tick-preserved
loop-tick-preserved c =
    ascends_on c.loop-tick.before c.loop-tick.tick-index c.args.others.now c.loop-tick-test.true c.if-tick-before.false
    (c.requires c.loop-tick.tick-index 0 c.loop-tick-test.true) ∙ c.loop-tick.invariant

pub returns : goal.returns
returns c = rw (drop_of_length-le c.args.others.now c.loop-tick-test.false) at c.loop-tick.invariant
