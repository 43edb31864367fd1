use Rattle.std.proofs.Common.{◌<◌, ◌^◌, rules, arith}
use Rattle.std.proofs.lemmas.Grind.{common_steps}
use Rattle.cbsrun_toml_plain.proofs.Digits.{one_digit, more_digits}
use Rattle.cbsrun_toml_plain.proofs.numbers.digits_of.Goals as goal

pub digits-init : goal.digits-init
digits-init c = (
  search rules,
  omega (arith, c.in_ok-number.ensures.0),
  one_digit c.args.s.now c.skip-rest.result.now c.in_ok-number.number
      c.in_ok-number.ensures.0 c.in_ok-number.ensures.1 c.skip-rest.ensures.rest,
)

pub digits-preserved : goal.digits-preserved
digits-preserved c =
    let l = c.digits in
    let few = c.in-Some.ensures.0 in
    let some : 0 < l.number = grind (arith, common_steps) in
    let small : l.number < 10 ^ 17 = grind (arith, common_steps) in (
      search rules,
      omega arith,
      more_digits c.args.s.now l.rest.now c.skip-rest-in-digits.result.now l.number c.in-Some.digit l.invariant.2 some small few c.in-Some.ensures.1
          c.skip-rest-in-digits.ensures.rest,
    )
