use Rattle.std.proofs.Common.{ap}
use Rattle.cbs_rate.proofs.Multiples.{all_periods_some}
use Rattle.cbs_rate.proofs.Rooms.{total_is, bandwidth_at_most_one}
use Rattle.cbs_rate.proofs.plan.Plan.total.Goals as goal

pub returns-clause-exact : goal.returns-clause-exact
returns-clause-exact c =
    let value = c.bandwidth-taken.ensures.value in
    rw (c.from.ensures, c.from-2.ensures, ap (λ b. b.ticks) value, ap (λ b. b.of) value) (total_is c.args.self.now.rates c.bandwidth-taken.ensures.lawful.lawful)

pub returns-clause-at_most_one : goal.returns-clause-at_most_one
returns-clause-at_most_one c =
    let plan = c.bandwidth-taken.ensures.lawful in
    bandwidth_at_most_one c.args.self.now.rates _ _ (all_periods_some c.args.self.now.rates plan.lawful) plan.at_most_one (returns-clause-exact c)
