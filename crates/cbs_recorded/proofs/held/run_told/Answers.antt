use Rattle.cbs_steps.specs.declared.step.Step.TheVariants as step
use Rattle.cbs_recorded.proofs.Recorded.{recorded_one}
use Rattle.cbs_recorded.specs.Records.{tape_in}
use Rattle.cbs_recorded.proofs.held.run_told.Goals as goal

pub returns-in-Unit-clause-recorded : goal.returns-in-Unit-clause-recorded
returns-in-Unit-clause-recorded g c =
    recorded_one g.W.Work.meaning c.args.core.now c.run-ran.new.self (tape_in c.args.tape.now) _ step.Run _ c.run-ran.ensures.makes c.tell_unit.ensures
