-- What a reservation is: a budget of so many ticks in every period of so many ticks.
use Rattle.std.specs.Prelude.{ℕ, ◌≤◌, ◌<◌, eqb, ltb, if◌then◌else◌, Option, Some, None}
use Rattle.cbs_rate.specs.Limits.{longest_period}
use Rattle.cbs_rate.specs.declared.error.RateError.{RateError}
use Rattle.cbs_rate.specs.declared.error.RateError.TheVariants.{ZeroBudget, PeriodTooLong, BudgetOverPeriod}

-- a budget in every period, in ticks
pub record Rate : Type 0 where
  pub budget : ℕ
  pub period : ℕ

-- a budget and a period within the limits of a reservation
pub record IsRate (budget period : ℕ) : Type 0 where
  pub some : 0 < budget
  pub within : budget ≤ period
  pub short : period ≤ longest_period

-- why a budget and a period make no reservation, if they make none: the first of the three tests that fails
abbrev pub rate_refusal : ℕ → ℕ → Option RateError
rate_refusal budget period =
    if eqb budget 0 then Some ZeroBudget
    else if ltb longest_period period then Some PeriodTooLong
    else if ltb period budget then Some BudgetOverPeriod
    else None
