use Rattle.std.proofs.Common.{◌++◌, take, length-append, length-take, arith, refl, rules}
use Rattle.cbsrun_io.proofs.WrittenText.{Consumes-then}
use Rattle.cbsrun_io.proofs.input.read_all.Goals as goal

pub returns-then-n-len-clause-refused : goal.returns-then-n-len-clause-refused
returns-then-n-len-clause-refused g c =
    let more = take c.in-Ok.n c.read.new.room in (
      c.loop-n.bytes.items ++ more,
      Consumes-then _ _ _ _ _ c.loop-n.invariant.so_far c.in-Ok.ensures.ok,
      (λ _. omega (arith, length-append c.loop-n.bytes.items more, length-take c.in-Ok.n c.read.new.room, c.in-Ok.ensures.took), λ _. refl),
    )

pub returns-then-is_err-clause-refused : goal.returns-then-is_err-clause-refused
returns-then-is_err-clause-refused g c =
    let more = take c.in-Ok.n c.read.new.room in (
      c.loop-n.bytes.items ++ more,
      Consumes-then _ _ _ _ _ c.loop-n.invariant.so_far c.in-Ok.ensures.ok,
      (λ e. absurd cc, λ lt. absurd (omega (arith, length-append c.loop-n.bytes.items more, length-take c.in-Ok.n c.read.new.room, c.in-Ok.ensures.took))),
    )

pub returns-in_default-clause-ok : goal.returns-in_default-clause-ok
returns-in_default-clause-ok g c = search rules

pub returns-in_default-clause-fault : goal.returns-in_default-clause-fault
returns-in_default-clause-fault g c = search rules
