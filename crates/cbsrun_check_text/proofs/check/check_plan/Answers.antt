use Rattle.std.proofs.Common.{refl}
use Rattle.cbsrun_check_text.proofs.Plans.{split_of}
use Rattle.cbsrun_check_text.proofs.check.check_plan.Goals as goal

pub returns : goal.returns
returns c = record {
  budgets = c.in_ok-budgets.budgets.items;
  greatest = c.in_ok-budgets.ensures.greatest;
  split = split_of c.args.plan.now c.in_ok-budgets.ensures.lawful;
  text_is = rw (c.in_ok-append_plan.ensures, c.new-text.ensures.bytes, c.deref.ensures.value) refl;
}
