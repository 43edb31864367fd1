use Rattle.std.proofs.Common.{suc, ◌<◌, arith}
use Rattle.std.proofs.lemmas.Grind.{common_steps}
use Rattle.cbsrun_toml_plain.specs.Pairs.{under}
use Rattle.cbsrun_task_steps.proofs.PlainSteps.{close_step}
use Rattle.cbsrun_task_steps.proofs.plain.close_step.Goals as goal

pub returns : goal.returns
returns c text reads =
    let few : c.in_ok-server.server < c.args.terms.servers = grind (arith, common_steps) in
    close_step c.args.layout c.args.terms text c.args.s.now c.in_ok-at.at.now c.in_ok-server.after.now c.in_ok-rest.rest.now c.in_ok-server.server reads
    c.in_ok-at.ensures (c.in_ok-server.ensures.value (suc (under c.args.layout))) c.in_ok-server.ensures.shorter few c.in_ok-rest.ensures
