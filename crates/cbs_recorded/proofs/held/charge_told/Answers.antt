use Rattle.std.proofs.Common.{arith}
use Rattle.cbs_steps.specs.declared.step.Step.TheVariants as step
use Rattle.cbs_recorded.proofs.Recorded.{records_one, recorded_at, recorded_uncharged}
use Rattle.cbs_recorded.specs.Records.{tape_in}
use Rattle.cbs_recorded.proofs.held.charge_told.Goals as goal

pub returns-in-Some-clause-recorded : goal.returns-in-Some-clause-recorded
returns-in-Some-clause-recorded g c =
    let work = g.W.Work.meaning in
    recorded_at work c.args.core.now c.charge.new.self c.args.tape.now c.in-Some.tape c.charged.new.self c.in-Some.is
    (records_one work c.args.core.now c.charge.new.self c.in-Some.tape.value c.charged.new.self (step.Charge c.args.server c.args.ticks) _ c.charge.ensures.makes (rw c.deref_mut.ensures.value at c.charged.ensures.heard))

pub returns-else-ticks-gt0-clause-recorded : goal.returns-else-ticks-gt0-clause-recorded
returns-else-ticks-gt0-clause-recorded g c =
    recorded_uncharged g.W.Work.meaning c.args.core.now c.charge.new.self (tape_in c.args.tape.now) c.args.server c.args.ticks _
    (omega (arith, c.if-ticks-gt0.false)) c.charge.ensures.makes
