use Rattle.std.proofs.Common.{arith}
use Rattle.cbs_steps.specs.declared.step.Step.TheVariants as step
use Rattle.cbs_recorded.proofs.Recorded.{records_one, recorded_at, recorded_unmoved}
use Rattle.cbs_recorded.specs.Records.{tape_in}
use Rattle.cbs_recorded.proofs.held.advance_told.Goals as goal

pub returns-in-Some-clause-recorded : goal.returns-in-Some-clause-recorded
returns-in-Some-clause-recorded g c =
    let work = g.W.Work.meaning in
    recorded_at work c.args.core.now c.advance.new.self c.args.tape.now c.in-Some.tape c.advanced.new.self c.in-Some.is
    (records_one work c.args.core.now c.advance.new.self c.in-Some.tape.value c.advanced.new.self (step.Advance c.args.n) _ c.advance.ensures.makes (rw c.deref_mut.ensures.value at c.advanced.ensures.heard))

pub returns-else-n-gt0-clause-recorded : goal.returns-else-n-gt0-clause-recorded
returns-else-n-gt0-clause-recorded g c =
    recorded_unmoved g.W.Work.meaning c.args.core.now c.advance.new.self (tape_in c.args.tape.now) c.args.n _ (omega (arith, c.if-n-gt0.false)) c.advance.ensures.makes
