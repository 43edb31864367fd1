-- Shares of the time as text: as a shortened fraction, and in per cent.
use Rattle.std.specs.Prelude.{ℕ, zero, suc, ◌+◌, ◌*◌, ◌/◌, ◌%◌, ◌&&◌, true, false, eqb, List, ◌++◌, codes, decimal}
use Rattle.cbsrun_text.specs.Numbers.{tenths_text}

-- the greatest of the numbers up to n that divides both, or 0 if none does
abbrev pub divisor_up_to : ℕ → ℕ → ℕ → ℕ
divisor_up_to a b zero = zero
divisor_up_to a b (suc n) = elim (eqb (a % suc n) 0 && eqb (b % suc n) 0) [ true ↦ suc n | false ↦ divisor_up_to a b n ]

-- the greatest number that divides both; b must not be 0
unfoldable pub greatest_divisor : ℕ → ℕ → ℕ
greatest_divisor a b = divisor_up_to a b b

-- a part of a whole as a shortened fraction
unfoldable pub fraction_text : ℕ → ℕ → List ℕ
fraction_text part whole = decimal (part / greatest_divisor part whole) ++ codes "/" ++ decimal (whole / greatest_divisor part whole)

-- a part of a whole in per cent, with one decimal, rounded, a half upward
unfoldable pub percent_text : ℕ → ℕ → List ℕ
percent_text part whole = tenths_text ((2000 * part + whole) / (2 * whole)) ++ codes " %"
