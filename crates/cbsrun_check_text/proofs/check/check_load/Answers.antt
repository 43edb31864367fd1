use Rattle.std.proofs.Common.{refl, arith}
use Rattle.std.proofs.lemmas.Grind.{common_steps}
use Rattle.cbsrun_sizing.proofs.LateServers.{bounded}
use Rattle.cbsrun_sizing.proofs.Recovered.{made_up}
use Rattle.cbsrun_check_text.proofs.Plans.{split_of}
use Rattle.cbsrun_check_text.proofs.check.check_load.Goals as goal

pub returns : goal.returns
returns c = record {
  budgets = c.in_ok-budgets.budgets.items;
  loads = c.in_ok-loads.loads.items;
  greatest = rw c.plan.ensures at c.in_ok-budgets.ensures.greatest;
  told = c.in_ok-loads.ensures;
  split = split_of c.args.load.now.plan (rw c.plan.ensures at c.in_ok-budgets.ensures.lawful);
  late = bounded c.args.load.now (rw c.plan.ensures at c.in_ok-budgets.ensures.lawful) c.names.ensures.lawful.moded;
  made_up = made_up c.args.load.now (rw c.plan.ensures at c.in_ok-budgets.ensures.lawful) c.names.ensures.lawful.moded;
  text_is = rw (
    c.in_ok-append_notes.ensures,
    c.in_ok-append_lateness.ensures,
    c.in_ok-append_sources.ensures,
    c.in_ok-append_plan.ensures,
    c.new-text.ensures.bytes,
    c.tick.ensures,
    c.names.ensures.value,
    c.modes.ensures,
    c.plan-2.ensures,
    c.deref.ensures.value,
    c.deref-2.ensures.value,
    c.deref-3.ensures.value,
  ) refl;
}

pub append_plan-requires-clause-named : goal.append_plan-requires-clause-named
append_plan-requires-clause-named c = grind (arith, common_steps)

pub append_plan-requires-clause-moded : goal.append_plan-requires-clause-moded
append_plan-requires-clause-moded c = grind (arith, common_steps)

pub append_plan-requires-clause-counted : goal.append_plan-requires-clause-counted
append_plan-requires-clause-counted c = grind (arith, common_steps)

pub append_sources-requires : goal.append_sources-requires
append_sources-requires c = grind (arith, common_steps)

pub append_notes-requires : goal.append_notes-requires
append_notes-requires c = grind (arith, common_steps)
