use Rattle.std.proofs.Common.{arith}
use Rattle.cbsrun_run_records.proofs.Lists.{same_at_each}
use Rattle.cbsrun_run_records.proofs.same.are_same_rates.Goals as goal

pub returns : goal.returns
returns c = λ is.
    let stop = c.loop-server-test.false in
    let same = c.loop-server.invariant in
    same_at_each (record { budget = 0; period = 0 }) c.args.own.now.rates c.args.others.now.rates same.count (λ s lt. same.same s (omega arith))
