-- The greatest budget that each server of a plan could have.
use Rattle.std.specs.Prelude.{ℕ, ◌-◌, ◌*◌, Bool, false, leb, List, Option, Some, None, ◌≡◌, ◌<◌, length, get_or}
use Rattle.std.specs.List.{sum_by, remove}
use Rattle.cbs_rate.specs.Plan.{Planned, share, common_multiple, IsGreatestBudget}
use Rattle.cbs_rate.specs.Rate.{Rate}
use Rattle.cbs_guarantee.specs.Parts.{rate_at}

-- how many ticks all servers together may run in the least common multiple of their periods
abbrev pub reserved : List Rate → ℕ
reserved rates = sum_by (share (common_multiple rates)) rates

-- what is left under the bound, in ticks. They are ticks of a span: `bound.den` times the least common multiple of all
-- periods
abbrev pub left_over : Planned → ℕ
left_over plan = plan.bound.num * common_multiple plan.rates - plan.bound.den * reserved plan.rates

-- a time is at most the wanted one, if a time is wanted
abbrev pub is_within : ℕ → Option ℕ → Bool
is_within time None = false
is_within time (Some within) = leb time within

-- the plan without server s
abbrev pub without : Planned → ℕ → Planned
without plan s = record plan { rates = remove plan.rates s }

-- the greatest budget that server s could have at its period, if all others stay as they are
abbrev pub IsGreatestFor : Planned → ℕ → ℕ → Type 0
IsGreatestFor plan s budget = IsGreatestBudget (without plan s) (rate_at plan.rates s).period budget

-- the greatest budget of each of the first n servers
pub record AreGreatest (plan : Planned) (n : ℕ) (budgets : List ℕ) : Type 0 where
  pub count : length budgets ≡ n
  pub each : (s : ℕ) → s < n → IsGreatestFor plan s (get_or budgets s 0)
