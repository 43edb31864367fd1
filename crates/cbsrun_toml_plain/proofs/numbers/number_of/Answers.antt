use Rattle.cbsrun_toml_plain.proofs.Digits.{number_read, number_shortens}
use Rattle.cbsrun_toml_plain.proofs.numbers.number_of.Goals as goal

pub returns-clause-value : goal.returns-clause-value
returns-clause-value c depth =
    number_read depth c.in_ok-number.number c.args.s.now c.in_ok-number.rest.now c.in_ok-number.ensures.spelled c.in_ok-number.ensures.small
    (c.ends_number.ensures c.if-not-ends_number.false)

pub returns-clause-shorter : goal.returns-clause-shorter
returns-clause-shorter c = number_shortens c.in_ok-number.number c.args.s.now c.in_ok-number.rest.now c.in_ok-number.ensures.spelled
    c.in_ok-number.ensures.small
