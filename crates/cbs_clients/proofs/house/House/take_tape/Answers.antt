use Rattle.std.proofs.Common.{refl, ap}
use Rattle.cbs_recorded.specs.Records.{tape_in}
use Rattle.cbs_clients.proofs.TakenTapes.{too_short, takes, stays}
use Rattle.cbs_clients.proofs.house.House.take_tape.Goals as goal

pub returns-in-Some-clause-taken : goal.returns-in-Some-clause-taken
returns-in-Some-clause-taken g c =
    let a = c.args.self.now in
    takes a _ c.in-Some.tape.value c.take.new.self c.args.out.now c.take.new.out (ap tape_in c.in-Some.is) refl refl refl refl c.take.result
    (rw c.deref_mut.ensures.value at c.take.ensures.taken)

pub returns-in-Some-clause-none : goal.returns-in-Some-clause-none
returns-in-Some-clause-none g c =
    too_short (tape_in c.args.self.now.tape) c.in-Some.tape.value c.take.result _ (ap tape_in c.in-Some.is) (rw c.deref_mut.ensures.value at c.take.ensures.none)

pub returns-in-Some-clause-same : goal.returns-in-Some-clause-same
returns-in-Some-clause-same g c =
    let a = c.args.self.now in
    stays a _ c.in-Some.tape.value c.take.new.self c.args.out.now c.take.new.out (ap tape_in c.in-Some.is) refl refl refl refl c.take.result
    (rw c.deref_mut.ensures.value at c.take.ensures.same)
