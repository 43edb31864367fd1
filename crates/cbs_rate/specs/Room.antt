-- What one server more would take: the bandwidth of all servers then, by how much it would pass the bound, and the least
-- period at which a budget fits.
use Rattle.std.specs.Prelude.{◌≡◌, ℕ, ◌+◌, ◌*◌, ◌<◌, Bool, true, false, IsTrue, List, [], ◌∷◌, ◌++◌, MatchOption, Option}
use Rattle.cbs_rate.specs.Bound.{Fraction}
use Rattle.cbs_rate.specs.Rate.{Rate}
use Rattle.cbs_rate.specs.declared.ratio.Ratio.{Ratio}
use Rattle.cbs_rate.specs.Plan.{Planned, all_periods, total_share, fits, takes}

-- The bandwidth of the rates, the sum of all budget / period, is exactly part / whole. Both sides are taken times whole
-- and times the product of all periods
pub record IsBandwidth (rates : List Rate) (part whole : ℕ) : Type 0 where
  pub some : 0 < whole
  pub exact : part * all_periods rates ≡ total_share rates * whole

-- the bandwidth of the rates is more than the bound, exactly by part / whole: it is num / den + part / whole
pub record IsExcess (bound : Fraction) (rates : List Rate) (part whole : ℕ) : Type 0 where
  pub more : 0 < part
  pub exact : IsBandwidth rates (bound.num * whole + part * bound.den) (bound.den * whole)

-- the result is by how much the rates pass the bound, and there is none exactly if they stay within it
abbrev pub TellsExcess : Fraction → List Rate → Option Ratio → Type 0
TellsExcess bound rates result = MatchOption result (IsTrue (fits bound rates)) (λ excess. IsExcess bound rates excess.part excess.whole)

-- whether the total bandwidth stays within the bound with one more server of this budget and period
abbrev pub has_room : Planned → ℕ → ℕ → Bool
has_room plan budget period = fits plan.bound (plan.rates ++ record { budget = budget; period = period } ∷ [])

-- the plan admits a server of this budget and period; and with each lesser period the bandwidth would pass the bound
pub record IsLeastPeriod (plan : Planned) (budget period : ℕ) : Type 0 where
  pub fits : takes plan budget period ≡ true
  pub least : (less : ℕ) → 0 < less → less < period → has_room plan budget less ≡ false
