use Rattle.cbs_steps.proofs.Punctual.{plan_punctual}
use Rattle.cbs_steps.proofs.theorem.all_punctual.Goals as goal

pub returns : goal.returns
returns g c = plan_punctual g.W.Work.meaning c.args.plan.now c.args.modes.now c.args.backlog c.len.ensures.lawful c.requires
