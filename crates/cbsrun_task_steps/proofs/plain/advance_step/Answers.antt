use Rattle.std.proofs.Common.{suc, ◌≤◌, arith}
use Rattle.std.proofs.lemmas.Grind.{common_steps}
use Rattle.cbsrun_task_steps.specs.Entries.{longest_advance}
use Rattle.cbsrun_toml_plain.specs.Pairs.{under}
use Rattle.cbsrun_task_steps.proofs.PlainSteps.{advance_step}
use Rattle.cbsrun_task_steps.proofs.plain.advance_step.Goals as goal

pub returns : goal.returns
returns c text reads =
    let most : c.in_ok-ticks.ticks ≤ longest_advance c.args.terms.format = grind (arith, common_steps) in
    advance_step c.args.layout c.args.terms text c.args.s.now c.in_ok-at.at.now c.in_ok-ticks.after.now c.in_ok-rest.rest.now c.in_ok-ticks.ticks reads
    c.in_ok-at.ensures (c.in_ok-ticks.ensures.value (suc (under c.args.layout))) c.in_ok-ticks.ensures.shorter most c.in_ok-rest.ensures
