use Rattle.std.proofs.Common.{◌≡◌, ◌==◌, true, length, arith}
use Rattle.std.proofs.lemmas.Grind.{common_steps}
use Rattle.toml_parser.specs.Lexical.{first}
use Rattle.cbsrun_toml_plain.specs.Pairs.{under}
use Rattle.cbsrun_task_steps.proofs.PlainSteps.{units_read}
use Rattle.cbsrun_task_steps.proofs.plain.units_of.Goals as goal

pub returns-clause-value : goal.returns-clause-value
returns-clause-value c layout =
    let opens : (first c.args.s.now == 91) ≡ true = grind (arith, common_steps) in
    let less = c.skip.ensures.shorter in
    let (ds, read, are) = c.in_ok-units.ensures.value (under layout) (length c.args.s.now) (omega arith) in
    (ds, units_read layout c.args.s.now c.skip.result.now c.in_ok-units.rest.now ds opens c.skip.ensures.rest read, are)

pub returns-clause-few : goal.returns-clause-few
returns-clause-few c = c.in_ok-units.ensures.few

pub returns-clause-shorter : goal.returns-clause-shorter
returns-clause-shorter c =
    let less = c.skip.ensures.shorter in
    let rest = c.in_ok-units.ensures.shorter in
    omega arith
