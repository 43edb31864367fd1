use Rattle.cbs_recovery.proofs.Recovery.{plan_recovery, plan_one}
use Rattle.cbs_recovery.proofs.theorem.all_recover.Goals as goal

pub returns-clause-made_up : goal.returns-clause-made_up
returns-clause-made_up g c = λ steps.
    plan_recovery g.W.Work.meaning c.args.plan.now c.args.modes.now c.args.backlog c.len.ensures.lawful c.requires steps

pub returns-clause-of_one : goal.returns-clause-of_one
returns-clause-of_one g c = plan_one g.W.Work.meaning c.args.plan.now c.args.modes.now c.args.backlog c.len.ensures.lawful c.requires
