use Rattle.cbs_rate.proofs.Multiples.{period_some}
use Rattle.cbs_rate.proofs.Rooms.{bandwidth_next}
use Rattle.cbs_rate.proofs.plan.Plan.total_with.Goals as goal

pub returns-clause-exact : goal.returns-clause-exact
returns-clause-exact c =
    rw (c.from-budget.ensures, c.from-period.ensures, c.budget.ensures.value, c.period.ensures.value)
    (bandwidth_next c.args.self.now.rates c.args.reservation c.total-total.ensures.lawful.lawful (period_some c.args.reservation c.period.ensures.lawful) _ _ c.total-total.ensures.exact)
