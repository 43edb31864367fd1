use Rattle.std.proofs.Common.{sym}
use Rattle.cbsrun_check_text.proofs.Divisors.{divisor_is}
use Rattle.cbs_rate.proofs.Multiples.{some_from_dvd}
use Rattle.cbsrun_check_text.proofs.fractions.divisor.Goals as goal

pub returns : goal.returns
returns c =
    let gcd = c.greatest_common_divisor.ensures.greatest in
    record {
      value = sym (divisor_is c.args.part c.args.whole c.greatest_common_divisor.result c.requires gcd);
      some = some_from_dvd c.greatest_common_divisor.result c.args.whole gcd.1 c.requires;
    }
