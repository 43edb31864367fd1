-- Which server runs: earliest deadline first (Liu and Layland, JACM 1973), and of equal deadlines the lower number.
use Rattle.std.specs.Prelude.{◌≡◌, ℕ, ◌<◌, Bool, true, false, not, ◌&&◌, ◌||◌, eqb, leb, ltb, List, length, get_or, Option, Some, None}
use Rattle.cbs_steps.specs.Searches.{all_below, first_below}

-- what the choice reads of each server
pub record Rank : Type 0 where
  pub ready : Bool
  pub deadline : ℕ

-- the rank of server s; a number without a server counts as not ready
abbrev pub rank_at : List Rank → ℕ → Rank
rank_at ranks s = get_or ranks s (record { ready = false; deadline = 0 })

-- whether the pair (deadline of s, s) is at most the pair (deadline of r, r), in dictionary order
abbrev pub is_before : List Rank → ℕ → ℕ → Bool
is_before ranks s r =
    let d = (rank_at ranks s).deadline in
    let e = (rank_at ranks r).deadline in
    ltb d e || (eqb d e && leb s r)

-- whether s is ready, and before every ready server
abbrev pub is_first : List Rank → ℕ → Bool
is_first ranks s = (rank_at ranks s).ready && all_below (λ r. not (rank_at ranks r).ready || is_before ranks s r) (length ranks)

-- the chosen server: the ready one that is before every ready server, and none if no server is ready
abbrev pub chosen_among : List Rank → Option ℕ
chosen_among ranks = first_below (is_first ranks) (length ranks)

-- s is one of the first n servers, it is ready, and its pair of deadline and number is at most each ready one's
pub record IsEarliest (ranks : List Rank) (n s : ℕ) : Type 0 where
  pub within : s < n
  pub ready : (rank_at ranks s).ready ≡ true
  pub first : (r : ℕ) → r < n → (rank_at ranks r).ready ≡ true → is_before ranks s r ≡ true

-- the choice among the first n servers: none if no server is ready, else the earliest
abbrev pub IsChoice : List Rank → ℕ → Option ℕ → Type 0
IsChoice ranks n None = (r : ℕ) → r < n → (rank_at ranks r).ready ≡ false
IsChoice ranks n (Some s) = IsEarliest ranks n s
