use Rattle.cbs_rate.proofs.Multiples.{common_multiple-least}
use Rattle.cbs_rate.proofs.plan.Plan.bandwidth.Goals as goal

pub returns-clause-multiple : goal.returns-clause-multiple
returns-clause-multiple c =
    let sums = c.self.invariant in
    rw (← c.self.view_is, sums.common) (common_multiple-least _ sums.lawful.lawful)
