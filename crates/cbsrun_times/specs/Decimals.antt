-- Numbers with a decimal point.
use Rattle.std.specs.Prelude.{ℕ, eqb, ltb, leb, ◌&&◌, ◌+◌, ◌*◌, ◌^◌, if◌then◌else◌, List, length, Option, Some, None}
use Rattle.std.specs.Char.{is_ascii_digit}
use Rattle.std.specs.List.{list_all, position_or_len, before_first, after_first}
use Rattle.std.specs.Option.{option_and_then}
use Rattle.std.specs.Str.Parse.{digits_value}
use Rattle.cbsrun_times.specs.declared.decimal.Decimal.{Decimal}

-- what stands before the first such mark, and what stands after it, if there is one
abbrev pub parted : ℕ → List ℕ → Option (List ℕ × List ℕ)
parted mark bs =
    if ltb (position_or_len (λ b. eqb b mark) bs) (length bs)
    then Some (before_first (λ b. eqb b mark) bs, after_first (λ b. eqb b mark) bs)
    else None

-- the number that 1 to 9 digits write
abbrev pub number_of : List ℕ → Option ℕ
number_of ds = if ltb 0 (length ds) && leb (length ds) 9 && list_all is_ascii_digit ds then Some (digits_value 10 ds) else None

-- digits before the point and digits after it, as one number of parts
abbrev pub with_decimals : ℕ → List ℕ → Option Decimal
with_decimals whole decimals =
    option_and_then (λ more. Some (record { parts = whole * 10 ^ length decimals + more; of = 10 ^ length decimals })) (number_of decimals)

-- the number that digits write, or digits, a point and digits
abbrev pub decimal_of : List ℕ → Option Decimal
decimal_of bs = elim (parted 46 bs) [
  | None ↦ option_and_then (λ number. Some (record { parts = number; of = 1 })) (number_of bs)
  | Some two ↦ option_and_then (λ whole. with_decimals whole two.1) (number_of two.0)
]
