use Rattle.std.proofs.Common.{arith}
use Rattle.cbs_rules.specs.declared.mode.Mode.TheVariants.{Soft}
use Rattle.cbsrun_run_records.proofs.Lists.{same_at_each}
use Rattle.cbsrun_run_records.proofs.same.are_same_modes.Goals as goal

pub returns : goal.returns
returns c = λ is.
    let stop = c.loop-server-test.false in
    let same = c.loop-server.invariant in
    same_at_each Soft c.args.own.now c.args.others.now same.count (λ s lt. same.same s (omega arith))
