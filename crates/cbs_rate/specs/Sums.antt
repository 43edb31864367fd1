-- What a plan keeps besides its rates, so that one more is admitted without reading the others.
use Rattle.std.specs.Prelude.{◌≡◌, ℕ, sum_by}
use Rattle.cbs_rate.specs.declared.plan.Plan.TheInside.{Inside}
use Rattle.cbs_rate.specs.Plan.{Planned, IsPlan, share, common_multiple}

-- the least common multiple of all periods of a plan, and the ticks that all servers together may run in as many ticks
pub record AreSums (plan : Planned) (multiple ticks : ℕ) : Type 0 where
  pub lawful : IsPlan plan
  pub common : multiple ≡ common_multiple plan.rates
  pub taken : ticks ≡ sum_by (share multiple) plan.rates

-- the bound and the rates, without the sums that are kept besides them
abbrev pub planned : Inside → Planned
planned p = record { bound = p.bound; rates = p.rates.items }

-- the sums that are kept are those of the plan
abbrev pub IsSummed : Inside → Type 0
IsSummed p = AreSums (planned p) p.common p.taken
