-- What a plan is: rates whose sum stays within a bound; and when it admits one more.
use Rattle.std.specs.Prelude.{◌≡◌, ℕ, zero, suc, ◌+◌, ◌*◌, ◌/◌, ◌%◌, ◌≤◌, ◌<◌, Bool, true, false, eqb, leb, ltb, if◌then◌else◌, List, [], ◌∷◌, ◌++◌}
use Rattle.std.specs.Prelude.{◌&&◌, length, sum_by, IsTrue, Option, Some, None}
use Rattle.std.specs.Option.{is_none}
use Rattle.std.specs.List.{list_all, AllByRecursion}
use Rattle.cbs_rate.specs.Limits.{greatest_common_multiple, most_servers}
use Rattle.cbs_rate.specs.Bound.{Fraction}
use Rattle.cbs_rate.specs.Rate.{Rate, IsRate, rate_refusal}
use Rattle.cbs_rate.specs.declared.error.AdmitError.{AdmitError}
use Rattle.cbs_rate.specs.declared.error.AdmitError.TheVariants.{TooManyServers, PeriodsTooFine, OverBound}

-- the bound on the total bandwidth, and the rates of the servers, server 0 first
pub record Planned : Type 0 where
  pub bound : Fraction
  pub rates : List Rate

-- the ticks that a server of this rate may run in so many ticks, if its period divides them
abbrev pub share : ℕ → Rate → ℕ
share ticks r = r.budget * (ticks / r.period)

-- the product of all periods, which each period divides
abbrev pub all_periods : List Rate → ℕ
all_periods [] = 1
all_periods (r ∷ rs) = r.period * all_periods rs

-- the ticks that all servers together may run in as many ticks as the product of all periods
abbrev pub total_share : List Rate → ℕ
total_share rates = sum_by (share (all_periods rates)) rates

-- Whether the rates fit the bound: the sum of budget / period over all of them is at most num / den. Both sides are
-- taken times den and times the product of all periods. With the bound 1/1 it is the processor utilisation up to which
-- earliest deadline first meets every deadline (Liu and Layland, JACM 1973).
abbrev pub fits : Fraction → List Rate → Bool
fits bound rates = leb (bound.den * total_share rates) (bound.num * all_periods rates)

-- each period divides m
abbrev pub IsCommonMultiple : ℕ → List Rate → Type 0
IsCommonMultiple m rates = AllByRecursion (λ r. m % r.period ≡ 0) rates

-- m is the least positive number that every period divides
pub record IsLeastCommonMultiple (m : ℕ) (rates : List Rate) : Type 0 where
  pub some : 0 < m
  pub common : IsCommonMultiple m rates
  pub least : (k : ℕ) → 0 < k → IsCommonMultiple k rates → m ≤ k

-- the first number from `from` to `from + room` that every period divides, or else `from + room`
abbrev pub common_multiple_from : List Rate → ℕ → ℕ → ℕ
common_multiple_from rates from zero = from
common_multiple_from rates from (suc room) =
    elim (list_all (λ r. eqb (from % r.period) 0) rates) [ true ↦ from | false ↦ common_multiple_from rates (from + 1) room ]

-- The least common multiple of all periods: the least positive number that every period divides
-- (`IsLeastCommonMultiple`). The search finds it at the product of all periods at the latest
unfoldable pub common_multiple : List Rate → ℕ
common_multiple rates = common_multiple_from rates 1 (all_periods rates)

-- What every plan keeps. It has at most 64 rates within the limits of a reservation. The least common multiple of their
-- periods is at most 10^18. Their total bandwidth is at most the bound, and so at most one.
pub record IsPlan (plan : Planned) : Type 0 where
  pub few : length plan.rates ≤ most_servers
  pub lawful : AllByRecursion (λ r. IsRate r.budget r.period) plan.rates
  pub coarse : common_multiple plan.rates ≤ greatest_common_multiple
  pub fits : IsTrue (fits plan.bound plan.rates)
  pub at_most_one : total_share plan.rates ≤ all_periods plan.rates

-- why a plan does not admit one more rate, if it does not: the first of the three tests that fails
abbrev pub admit_refusal : Planned → Rate → Option AdmitError
admit_refusal plan r =
    if leb most_servers (length plan.rates) then Some TooManyServers
    else if ltb greatest_common_multiple (common_multiple (plan.rates ++ r ∷ [])) then Some PeriodsTooFine
    else if fits plan.bound (plan.rates ++ r ∷ []) then None
    else Some OverBound

-- the plan with one more rate
abbrev pub with_rate : Planned → Rate → Planned
with_rate plan r = record plan { rates = plan.rates ++ r ∷ [] }

-- whether the plan admits one more server of this budget and period
abbrev pub takes : Planned → ℕ → ℕ → Bool
takes plan budget period = is_none (rate_refusal budget period) && is_none (admit_refusal plan (record { budget = budget; period = period }))

-- the plan admits a server of this budget, or the budget is 0; and it admits no server with a greater budget
pub record IsGreatestBudget (plan : Planned) (period budget : ℕ) : Type 0 where
  pub fits : 0 < budget → takes plan budget period ≡ true
  pub greatest : (more : ℕ) → budget < more → takes plan more period ≡ false
