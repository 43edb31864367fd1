-- The numbers and names of the errors.
use Rattle.std.specs.Prelude.{ℕ, List, codes}
use Rattle.cbs_rate.specs.declared.error.RateError.{RateError}
use Rattle.cbs_rate.specs.declared.error.RateError.TheVariants.{ZeroBudget, PeriodTooLong, BudgetOverPeriod, BadBound}
use Rattle.cbs_rate.specs.declared.error.AdmitError.{AdmitError}
use Rattle.cbs_rate.specs.declared.error.AdmitError.TheVariants.{TooManyServers, PeriodsTooFine, OverBound}

-- the error's number, from 1
abbrev pub rate_error_number : RateError → ℕ
rate_error_number ZeroBudget = 1
rate_error_number PeriodTooLong = 2
rate_error_number BudgetOverPeriod = 3
rate_error_number BadBound = 4

-- the error's name, in bytes
abbrev pub rate_error_name : RateError → List ℕ
rate_error_name ZeroBudget = codes "ZeroBudget"
rate_error_name PeriodTooLong = codes "PeriodTooLong"
rate_error_name BudgetOverPeriod = codes "BudgetOverPeriod"
rate_error_name BadBound = codes "BadBound"

-- the error's number, from 1
abbrev pub admit_error_number : AdmitError → ℕ
admit_error_number TooManyServers = 1
admit_error_number PeriodsTooFine = 2
admit_error_number OverBound = 3

-- the error's name, in bytes
abbrev pub admit_error_name : AdmitError → List ℕ
admit_error_name TooManyServers = codes "TooManyServers"
admit_error_name PeriodsTooFine = codes "PeriodsTooFine"
admit_error_name OverBound = codes "OverBound"
