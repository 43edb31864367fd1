use Rattle.std.proofs.Common.{ap}
use Rattle.cbs_rate.proofs.Rooms.{multiple_with}
use Rattle.cbs_rate.proofs.plan.Plan.common_multiple_with.Goals as goal

pub returns : goal.returns
returns c =
    multiple_with c.args.self.now.rates c.args.reservation c.bandwidth.result.of c.period.result c.least_common_multiple.result
    c.bandwidth.ensures.lawful.lawful c.period.ensures.lawful (ap (λ b. b.of) c.bandwidth.ensures.value) c.period.ensures.value c.least_common_multiple.ensures
