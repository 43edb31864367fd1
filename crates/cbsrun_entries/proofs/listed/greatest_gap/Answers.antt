use Rattle.std.proofs.Common.{◌≡◌, [], arith}
use Rattle.std.specs.Prelude.{drop}
use Rattle.std.proofs.Math.ListN.{drop_of_length-le}
use Rattle.std.proofs.lemmas.Grind.{common_steps}
use Rattle.cbsrun_entries.proofs.Gaps.{greatest_on}
use Rattle.cbsrun_entries.proofs.listed.greatest_gap.Goals as goal

pub loop-tick-preserved : goal.loop-tick-preserved
loop-tick-preserved c =
    let on = greatest_on c.loop-tick.before c.loop-tick.tick-index c.args.others.now c.loop-tick-test.true in
    let early = c.requires c.loop-tick.tick-index 0 c.loop-tick-test.true in
    record { so_far = grind (arith, common_steps); small = grind (arith, common_steps) }

pub returns-clause-value : goal.returns-clause-value
returns-clause-value c =
    let none : drop c.loop-tick.tick-index c.args.others.now ≡ [] = drop_of_length-le c.args.others.now c.loop-tick-test.false in
    let so_far = rw none at c.loop-tick.invariant.so_far in
    omega arith
