use Rattle.std.proofs.Common.{refl, sym}
use Rattle.cbs_rate.proofs.Multiples.{common_multiple-nil}
use Rattle.cbs_rate.proofs.Plans.{plan_empty}
use Rattle.cbs_rate.proofs.plan.Plan.new.Goals as goal

pub invariant_of-result : goal.invariant_of-result
invariant_of-result c = rw c.new.ensures (record {
  lawful = plan_empty c.args.bound;
  common = sym common_multiple-nil;
  taken = refl;
})
