-- A reader or a writer of the library, with a count of its calls that failed.
use Rattle.std.specs.Prelude.{ℕ, Bool}

-- a reader, with a count of its calls that failed
pub record Counted (T : Type 0) : Type 0 where
  pub inner : T
  pub failed : ℕ

-- a writer, with a count of its calls that failed, and whether the last of these found a closed pipe
pub record CountedWriter (T : Type 0) : Type 0 where
  pub inner : T
  pub failed : ℕ
  pub closed : Bool
