use Rattle.cbs_rate.proofs.Multiples.{some_from_dvd}
use Rattle.cbsrun_refusal_texts.proofs.Shares.{shortened_is}
use Rattle.cbsrun_refusal_texts.proofs.over.shortened.Goals as goal

pub nonzero_div-result : goal.nonzero_div-result
nonzero_div-result c = some_from_dvd c.greatest_common_divisor-divisor.result c.args.ratio.whole c.greatest_common_divisor-divisor.ensures.greatest.1 c.requires

pub nonzero_div-result-2 : goal.nonzero_div-result-2
nonzero_div-result-2 c = some_from_dvd c.greatest_common_divisor-divisor.result c.args.ratio.whole c.greatest_common_divisor-divisor.ensures.greatest.1 c.requires

pub returns : goal.returns
returns c =
    let gcd = c.greatest_common_divisor-divisor.ensures in
    shortened_is c.args.ratio c.greatest_common_divisor-divisor.result c.requires gcd.greatest gcd.scaled
