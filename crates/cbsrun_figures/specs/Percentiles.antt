-- The least of numbers, and their percentiles.
use Rattle.std.specs.Prelude.{ℕ, ◌+◌, ◌*◌, ◌≤◌, ◌<◌, leb, ltb, if◌then◌else◌, List, [], ◌∷◌, length, Contains, All}
use Rattle.cbsrun_figures.specs.declared.figures.Ranks.{Ranks}

-- how many of the numbers are at most n
abbrev pub at_most : ℕ → List ℕ → ℕ
at_most n [] = 0
at_most n (m ∷ ms) = (if leb m n then 1 else 0) + at_most n ms

-- how many of the numbers are less than n
abbrev pub below : ℕ → List ℕ → ℕ
below n [] = 0
below n (m ∷ ms) = (if ltb m n then 1 else 0) + below n ms

-- n is a percentile of the numbers, by nearest rank. It is the least of the numbers that at least this many per cent of
-- them do not exceed
pub record IsPercentile (percent : ℕ) (numbers : List ℕ) (n : ℕ) : Type 0 where
  pub among : Contains numbers n
  pub reached : percent * length numbers ≤ 100 * at_most n numbers
  pub least : 100 * below n numbers < percent * length numbers

-- n is the least of the numbers
pub record IsLeast (numbers : List ℕ) (n : ℕ) : Type 0 where
  pub among : Contains numbers n
  pub least : All (λ m. n ≤ m) numbers

-- the ranks of the numbers: the least, and the 50th, 95th, 99th and 100th percentile
pub record AreRanks (numbers : List ℕ) (r : Ranks) : Type 0 where
  pub least : IsLeast numbers r.least
  pub median : IsPercentile 50 numbers r.median
  pub p95 : IsPercentile 95 numbers r.p95
  pub p99 : IsPercentile 99 numbers r.p99
  pub greatest : IsPercentile 100 numbers r.greatest
