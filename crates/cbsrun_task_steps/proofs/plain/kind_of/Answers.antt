use Rattle.cbsrun_task_steps.proofs.PlainSteps.{sum_kind, peak_kind}
use Rattle.cbsrun_task_steps.proofs.plain.kind_of.Goals as goal

pub returns-in-Some-clause-value : goal.returns-in-Some-clause-value
returns-in-Some-clause-value c layout = sum_kind layout c.args.s.now c.in-Some.rest.now c.in-Some.ensures

pub returns-clause-value : goal.returns-clause-value
returns-clause-value c layout = peak_kind layout c.args.s.now c.in_ok-rest.rest.now c.in_ok-rest.ensures
