use Rattle.cbsrun_task_steps.proofs.MoreSteps.{none_yet}
use Rattle.cbsrun_task_steps.proofs.steps.StepsRead.new.Goals as goal

pub returns : goal.returns
returns c terms = none_yet terms c.new.result.items c.new.ensures.items
