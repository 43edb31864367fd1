-- A writer whose text may be painted.
use Rattle.std.specs.Prelude.{ℕ, Bool, if◌then◌else◌, List, Option, None}

-- the writer that the text goes to, and whether the text may be painted
pub record Painting (W : Type 0) : Type 0 where
  pub writer : W
  pub may : Bool

-- what was written, if that is known: what the writer holds, as long as nothing is painted
abbrev pub contents_of : {W : Type 0} → (W → Option (List ℕ)) → Painting W → Option (List ℕ)
contents_of contents p = if p.may then None else contents p.writer
