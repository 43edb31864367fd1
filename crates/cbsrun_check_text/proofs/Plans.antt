-- What a plan has reserved, and what is left under its bound.
use Rattle.std.proofs.Common.{◌*◌, ◌≤◌, arith}
use Rattle.std.proofs.lemmas.Bool.{leb-true}
use Rattle.cbs_rate.specs.Plan.{Planned, IsPlan, total_share, all_periods, common_multiple}
use Rattle.cbs_rate.proofs.Shares.{fits_common}
use Rattle.cbsrun_check_text.specs.Checks.{IsSplit}
use Rattle.cbsrun_sizing.specs.Budgets.{reserved}

pub split_of : (plan : Planned) → IsPlan plan → IsSplit plan
split_of plan ok =
    let fits : plan.bound.den * reserved plan.rates ≤ plan.bound.num * common_multiple plan.rates =
    (fits_common plan.bound.num plan.bound.den plan.rates ok.lawful).0
    (leb-true (plan.bound.den * total_share plan.rates) (plan.bound.num * all_periods plan.rates) ok.fits) in
    omega arith
