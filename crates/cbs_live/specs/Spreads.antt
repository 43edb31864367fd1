-- A summary of numbers.
use Rattle.std.specs.Prelude.{ℕ, zero, suc, Bool, ◌&&◌, ◌≡◌, ◌-◌, ◌*◌, ◌/◌, ◌^◌, ◌≤◌, ◌<◌, min, max, List, [], ◌∷◌, length, sum, count_by, nat_lt, nat_le, slice_index}
use Rattle.cbs_live.specs.declared.spread.Spread.{Spread}

-- the greatest number of 64 bits, where each number of a summary stops
abbrev pub most : ℕ
most = 2 ^ 64 - 1

-- the least of a number and some more
abbrev pub least_with : ℕ → List ℕ → ℕ
least_with x [] = x
least_with x (y ∷ ys) = min x (least_with y ys)

-- the least of some numbers, and 0 of none
abbrev pub least_of : List ℕ → ℕ
least_of [] = 0
least_of (x ∷ xs) = least_with x xs

-- the greatest of some numbers, and 0 of none
abbrev pub greatest_of : List ℕ → ℕ
greatest_of [] = 0
greatest_of (x ∷ xs) = max x (greatest_of xs)

-- the least number of a power
abbrev pub start_of : ℕ → ℕ
start_of zero = 0
start_of (suc k) = 2 ^ k

-- whether a number is of power k: below 2 ^ k, and not below the power before it
abbrev pub is_of_power : ℕ → ℕ → Bool
is_of_power k x = nat_le (start_of k) x && nat_lt x (2 ^ k)

-- A spread is the summary of these numbers, which may have come in any order. Each number of it
-- stops at the greatest of 64 bits
pub record IsSpreadOf (s : Spread) (xs : List ℕ) : Type 0 where
  pub count : s.count ≡ min (length xs) most
  pub total : s.total ≡ min (sum xs) most
  pub least : s.least ≡ least_of xs
  pub greatest : s.greatest ≡ greatest_of xs
  pub powers : (k : ℕ) → k < 65 → slice_index s.powers k ≡ min (count_by (is_of_power k) xs) most

-- none of their counts has stopped: neither how many they are nor their sum passes the greatest
-- number of 64 bits
pub record IsCounted (xs : List ℕ) : Type 0 where
  pub few : length xs ≤ most
  pub small : sum xs ≤ most

-- their mean, rounded down, and 0 of none
abbrev pub mean_of : List ℕ → ℕ
mean_of xs = sum xs / length xs

-- at least so many of a thousand numbers are at most this one
abbrev pub AreAtMost : ℕ → ℕ → List ℕ → Type 0
AreAtMost per_mille bound xs = per_mille * length xs ≤ 1000 * count_by (λ x. nat_le x bound) xs
