use Rattle.cbs_steps.specs.Setups.{history_of}
use Rattle.cbs_guarantee.proofs.Guarantees.{guaranteed_of}
use Rattle.cbs_guarantee.proofs.theorem.all_guaranteed.Goals as goal

pub returns : goal.returns
returns g c = λ steps. guaranteed_of g.W.Work.meaning (history_of c.args.modes.now c.args.plan.now.rates c.args.backlog steps) c.all_punctual.ensures
