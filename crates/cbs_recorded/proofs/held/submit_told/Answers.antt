use Rattle.cbs_steps.specs.declared.step.Step.TheVariants as step
use Rattle.cbs_recorded.proofs.Recorded.{records_one, recorded_at}
use Rattle.cbs_recorded.proofs.held.submit_told.Goals as goal

pub returns-in-Some-clause-recorded : goal.returns-in-Some-clause-recorded
returns-in-Some-clause-recorded g c =
    let work = g.W.Work.meaning in
    recorded_at work c.args.core.now c.submit_reserved-number.new.self c.args.tape.now c.in-Some.tape c.accepted.new.self c.in-Some.is
    (records_one work c.args.core.now c.submit_reserved-number.new.self c.in-Some.tape.value c.accepted.new.self (step.Submit c.args.server c.args.task) _ c.submit_reserved-number.ensures.makes (rw (c.left-units.ensures.value, c.deref_mut.ensures.value) at c.accepted.ensures.heard))
