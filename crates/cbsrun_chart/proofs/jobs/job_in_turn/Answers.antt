use Rattle.std.proofs.Common.{◌∙◌, ◌-◌, sym}
use Rattle.cbsrun_chart.proofs.Numbers.{found_in_turn, looked_up, none_in_turn}
use Rattle.cbsrun_chart.proofs.jobs.job_in_turn.Goals as goal

pub returns-in-Some : goal.returns-in-Some
returns-in-Some c =
    let jobs = c.args.jobs.now in
    let first = c.in-Some.first.now in
    let got = looked_up c.get.result jobs (c.args.number - first.number) c.get.ensures.lookup.0 c.get.ensures.lookup.1 in
    c.copied.ensures ∙ (got ∙ sym (found_in_turn jobs first c.args.number c.in-Some.ensures.value c.requires c.if-first-number.true))

pub returns-in_default : goal.returns-in_default
returns-in_default c =
    sym (none_in_turn c.args.jobs.now c.in-Some.first.now c.args.number c.in-Some.ensures.value c.requires c.if-first-number.false)
