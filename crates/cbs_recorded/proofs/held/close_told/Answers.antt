use Rattle.cbs_steps.specs.declared.step.Step.TheVariants as step
use Rattle.cbs_recorded.proofs.Recorded.{records_one, recorded_at}
use Rattle.cbs_recorded.proofs.held.close_told.Goals as goal

pub returns-in-Some-clause-recorded : goal.returns-in-Some-clause-recorded
returns-in-Some-clause-recorded g c =
    let work = g.W.Work.meaning in
    recorded_at work c.args.core.now c.close_open.new.self c.args.tape.now c.in-Some.tape c.closed.new.self c.in-Some.is
    (records_one work c.args.core.now c.close_open.new.self c.in-Some.tape.value c.closed.new.self (step.Close c.args.server) _ c.close_open.ensures.makes (rw c.deref_mut.ensures.value at c.closed.ensures.heard))
