use Rattle.std.proofs.Common.{arith}
use Rattle.std.proofs.lemmas.List.{ext_get_or}
use Rattle.cbs_tape.specs.declared.entry.Entry.TheVariants.{Closed}
use Rattle.cbsrun_run_records.proofs.same.are_same_entries.Goals as goal

pub returns : goal.returns
returns c = λ is.
    let stop = c.loop-i-test.false in
    let same = c.loop-i.invariant in
    ext_get_or (Closed 0) c.args.own.now c.args.others.now same.count (λ k lt. same.same k (omega arith))
