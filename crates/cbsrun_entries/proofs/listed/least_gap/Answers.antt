use Rattle.std.proofs.Common.{◌≡◌, [], arith}
use Rattle.std.specs.Prelude.{drop}
use Rattle.std.proofs.Math.ListN.{drop_of_length-le}
use Rattle.cbsrun_entries.proofs.Gaps.{least_small, least_on}
use Rattle.cbsrun_entries.proofs.listed.least_gap.Goals as goal

pub loop-tick-init : goal.loop-tick-init
loop-tick-init c =
    let most = least_small c.args.first c.args.others.now in
    record { so_far = omega arith; small = omega arith }

pub loop-tick-preserved : goal.loop-tick-preserved
loop-tick-preserved c =
    let on = least_on c.loop-tick.before c.loop-tick.tick-index c.args.others.now c.loop-tick-test.true in
    record { so_far = omega arith; small = omega arith }

pub returns-clause-value : goal.returns-clause-value
returns-clause-value c =
    let none : drop c.loop-tick.tick-index c.args.others.now ≡ [] = drop_of_length-le c.args.others.now c.loop-tick-test.false in
    let so_far = rw none at c.loop-tick.invariant.so_far in
    omega arith
