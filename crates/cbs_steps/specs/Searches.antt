-- Searches over numbers.
use Rattle.std.specs.Prelude.{ℕ, zero, suc, Bool, true, ◌&&◌, if◌then◌else◌, Option, Some, None}

-- the first option if it holds a number, else the second
abbrev pub or_else : Option ℕ → Option ℕ → Option ℕ
or_else None other = other
or_else (Some s) other = Some s

-- the first number below n that passes the test, if there is one
abbrev pub first_below : (ℕ → Bool) → ℕ → Option ℕ
first_below p zero = None
first_below p (suc n) = or_else (first_below p n) (if p n then Some n else None)

-- whether each number below n passes the test
abbrev pub all_below : (ℕ → Bool) → ℕ → Bool
all_below p zero = true
all_below p (suc n) = all_below p n && p n

-- the greatest number from 1 to n that passes the test, or 0
abbrev pub greatest : (ℕ → Bool) → ℕ → ℕ
greatest p zero = 0
greatest p (suc n) = if p (suc n) then suc n else greatest p n
