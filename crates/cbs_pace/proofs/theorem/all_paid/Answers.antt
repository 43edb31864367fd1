use Rattle.cbs_pace.proofs.Ledgers.{units_paid}
use Rattle.cbs_pace.proofs.theorem.all_paid.Goals as goal

pub returns : goal.returns
returns c = λ before units. units_paid c.args.rounding c.args.tick before units c.requires
