use Rattle.std.proofs.Common.{arith}
use Rattle.std.proofs.lemmas.List.{ext_get_or}
use Rattle.cbsrun_sized.proofs.Sources.{no_source}
use Rattle.cbsrun_sized.proofs.same.are_same_sources.Goals as goal

pub returns : goal.returns
returns c = λ is.
    let stop = c.loop-i-test.false in
    let same = c.loop-i.invariant in
    ext_get_or no_source c.args.own.now c.args.others.now same.count (λ k lt. same.same k (omega arith))
