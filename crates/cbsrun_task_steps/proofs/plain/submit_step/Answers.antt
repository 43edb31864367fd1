use Rattle.std.proofs.Common.{suc, ◌<◌, Ok, sym, ◌∙◌, ap, arith}
use Rattle.std.proofs.lemmas.Grind.{common_steps}
use Rattle.cbsrun_toml_plain.specs.Pairs.{under}
use Rattle.cbsrun_task_steps.proofs.PlainSteps.{submit_step}
use Rattle.cbsrun_task_steps.proofs.plain.submit_step.Goals as goal

pub returns : goal.returns
returns c text reads =
    let few : c.in_ok-server.server < c.args.terms.servers = grind (arith, common_steps) in
    let (ds, units_are, are) = c.in_ok-units.ensures.value c.args.layout in
    submit_step c.args.layout c.args.terms text c.args.s.now c.in_ok-at_server.at_server.now c.in_ok-server.after_server.now
    c.in_ok-at_job.at_job.now c.in_ok-kind.after_job.now
    c.in_ok-at_units.at_units.now c.in_ok-units.after_units.now c.in_ok-rest.rest.now c.in_ok-server.server c.in_ok-kind.kind.now
    c.in_ok-units.units.items ds _ reads
    c.in_ok-at_server.ensures (c.in_ok-server.ensures.value (suc (under c.args.layout))) c.in_ok-server.ensures.shorter
    c.in_ok-at_job.ensures (c.in_ok-kind.ensures.value c.args.layout) c.in_ok-kind.ensures.shorter
    c.in_ok-at_units.ensures units_are c.in_ok-units.ensures.shorter
    c.in_ok-rest.ensures few are c.in_ok-units.ensures.some c.in_ok-units.ensures.few
    (sym c.job_of.ensures ∙ c.in-Ok.is ∙ ap (λ j. Ok j) (sym c.in-Ok-new.ensures.ok))

pub job_of-requires : goal.job_of-requires
job_of-requires c = c.in_ok-units.ensures.few
