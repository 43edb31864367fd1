use Rattle.std.proofs.Common.{◌≡◌, ◌≤◌, true, length, sym, ◌∙◌, arith}
use Rattle.std.specs.Char.{is_ascii_digit}
use Rattle.std.specs.List.{list_all}
use Rattle.cbsrun_times.proofs.Digits.{parsed_number}
use Rattle.cbsrun_times.proofs.decimal.number_of.Goals as goal

pub returns-clause-value : goal.returns-clause-value
returns-clause-value c =
    let are : list_all is_ascii_digit c.args.digits.now ≡ true = rw c.as_bytes.ensures.value at (sym c.are_digits.ensures ∙ c.if-not-are_digits.false) in
    let short : length c.args.digits.now ≤ 9 = omega (arith, c.if-digits-gt-MAX_DIGITS.false) in
    rw c.ok.ensures.value (parsed_number c.args.digits.now c.parse.result c.parse.ensures.value.0 are short).0

pub returns-clause-short : goal.returns-clause-short
returns-clause-short c =
    let are : list_all is_ascii_digit c.args.digits.now ≡ true = rw c.as_bytes.ensures.value at (sym c.are_digits.ensures ∙ c.if-not-are_digits.false) in
    let short : length c.args.digits.now ≤ 9 = omega (arith, c.if-digits-gt-MAX_DIGITS.false) in
    rw c.ok.ensures.value (parsed_number c.args.digits.now c.parse.result c.parse.ensures.value.0 are short).1
