use Rattle.cbs_rate.proofs.Multiples.{some_from_dvd}
use Rattle.cbs_rate.proofs.multiple.least_common_multiple.Goals as goal

pub nonzero_div-a : goal.nonzero_div-a
nonzero_div-a c = some_from_dvd _ _ c.greatest_common_divisor.ensures.0 c.requires
