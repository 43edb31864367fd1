-- The bound on the total bandwidth of a plan.
use Rattle.std.specs.Prelude.{ℕ, ◌≤◌, ◌<◌, ◌||◌, eqb, ltb, if◌then◌else◌, Option, Some, None}
use Rattle.cbs_rate.specs.declared.error.RateError.{RateError}
use Rattle.cbs_rate.specs.declared.error.RateError.TheVariants.{BadBound}

-- a part of a processor: num of every den ticks
pub record Fraction : Type 0 where
  pub num : ℕ
  pub den : ℕ

-- a part of a processor that may bound a plan: more than none of it, and at most the whole
pub record IsBound (num den : ℕ) : Type 0 where
  pub some : 0 < num
  pub at_most_one : num ≤ den
  pub small : den ≤ 1_000_000

-- why two numbers make no bound, if they make none
abbrev pub bound_refusal : ℕ → ℕ → Option RateError
bound_refusal num den =
    if eqb num 0 || ltb den num || ltb 1_000_000 den then Some BadBound else None
