-- Ranges of numbers.
use Rattle.std.specs.Prelude.{ℕ}

-- a range as contracts see it: its least and its greatest number
pub record Bounds : Type 0 where
  pub least : ℕ
  pub greatest : ℕ
