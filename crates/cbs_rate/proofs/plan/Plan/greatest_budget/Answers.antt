use Rattle.std.proofs.Common.{◌≡◌, ◌+◌, arith}
use Rattle.cbs_rate.proofs.Budgets.{takes_no_more}
use Rattle.cbs_rate.proofs.plan.Plan.greatest_budget.Goals as goal

pub returns : goal.returns
returns c =
    let l = c.loop-refused.invariant in
    let next : c.loop-refused.refused ≡ c.loop-refused.admitted + 1 = omega arith in
    record {
      fits = l.1;
      greatest = λ more lt. takes_no_more c.args.self.now c.args.period (c.loop-refused.admitted + 1) more (omega arith) (omega arith) (rw next at l.2);
    }
