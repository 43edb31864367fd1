-- The parts of a plan that tables of every kind spell: its bound, and the reservation and the mode of a server.
use Rattle.std.specs.Prelude.{ℕ, ℤ, codes, bytes_eq, if◌then◌else◌, List, Option, Some, None, Result, Ok, Err}
use Rattle.cbs_rate.specs.Limits.{greatest_denominator, longest_period}
use Rattle.cbs_rate.specs.Bound.{Fraction}
use Rattle.cbs_rate.specs.Rate.{Rate}
use Rattle.cbs_rules.specs.declared.mode.Mode.{Mode}
use Rattle.cbs_rules.specs.declared.mode.Mode.TheVariants.{Soft, Throttled}
use Rattle.cbsrun_toml_tables.specs.declared.fault.FileKind.{FileKind}
use Rattle.cbsrun_toml_tables.specs.declared.fault.FileKind.TheVariants.{OutOfRange}
use Rattle.cbsrun_toml_tables.specs.Fields.{◌>>=◌, within}

-- the bound of two numbers N and D: D is 1 to 1000000, and N is 1 to D
abbrev pub bound_of : Option (ℤ × ℤ) → Result Fraction FileKind
bound_of None = Err OutOfRange
bound_of (Some (num_number, den_number)) = do
  den ← within 1 greatest_denominator den_number
  num ← within 1 den num_number
  Ok (record { num = num; den = den })

-- the reservation of two numbers: the period is 1 to 1000000000 ticks, and the budget is 1 to the period
abbrev pub reservation : ℤ → ℤ → Result Rate FileKind
reservation budget_number period_number = do
  period ← within 1 longest_period period_number
  budget ← within 1 period budget_number
  Ok (record { budget = budget; period = period })

-- the mode that a word names
abbrev pub mode_of : List ℕ → Result Mode FileKind
mode_of word =
    if bytes_eq word (codes "soft") then Ok Soft
    else if bytes_eq word (codes "throttled") then Ok Throttled
    else Err OutOfRange
