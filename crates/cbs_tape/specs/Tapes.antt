-- A tape, as the steps that it has.
use Rattle.std.specs.Prelude.{◌≡◌, ℕ, ◌+◌, ◌≤◌, leb, Bool, true, false, ◌&&◌, if◌then◌else◌, List, [], ◌∷◌, ◌++◌, length, take, drop}
use Rattle.std.specs.List.{AllByRecursion}
use Rattle.std.proofs.Math.ListN.{replicate}
use Rattle.cbs_steps.specs.declared.step.Step.{Step}
use Rattle.cbs_steps.specs.declared.step.Step.TheVariants.{Submit, Run, Advance, Charge, Close}
use Rattle.cbs_units.specs.declared.count.CountJob.{CountJob}
use Rattle.cbs_tape.specs.declared.entry.Entry.{Entry}
use Rattle.cbs_tape.specs.declared.entry.Entry.TheVariants.{Accepted, Units, Advanced, Charged, Closed}
use Rattle.cbs_tape.specs.declared.entry.Ending.{Ending}
use Rattle.cbs_tape.specs.declared.entry.Ending.TheVariants.{Marked, Cut}
use Rattle.cbs_tape.specs.Spelling.{entries, HasSpelling}
use Rattle.cbs_tape.specs.Reading.{told}

-- the steps of an entry
abbrev pub steps_of : Entry → List (Step CountJob)
steps_of (Accepted s units) = Submit s (record { units = units }) ∷ []
steps_of (Units n) = replicate n Run
steps_of (Advanced n) = Advance n ∷ []
steps_of (Charged s n) = Charge s n ∷ []
steps_of (Closed s) = Close s ∷ []

-- the steps of the entries, in order
abbrev pub all_steps : List Entry → List (Step CountJob)
all_steps [] = []
all_steps (e ∷ es) = steps_of e ++ all_steps es

-- the bytes are those of entries, and nothing more
pub record AreEntries (bytes : List ℕ) : Type 0 where
  pub spelled : entries (told bytes).entries ≡ bytes
  pub each : AllByRecursion HasSpelling (told bytes).entries

-- the steps that bytes tell
abbrev pub steps_in : List ℕ → List (Step CountJob)
steps_in bytes = all_steps (told bytes).entries

-- the new bytes are those of entries, too, and tell the steps xs after those of the old ones
pub record Tells (xs : List (Step CountJob)) (old new : List ℕ) : Type 0 where
  pub are : AreEntries new
  pub steps : steps_in new ≡ steps_in old ++ xs

-- a tape that is being written: the steps that it has, whether it has each step that it was told, how many bytes are
-- free, and how many its memory has
pub record Taped : Type 0 where
  pub steps : List (Step CountJob)
  pub whole : Bool
  pub room : ℕ
  pub size : ℕ

-- The tape was told the steps xs. If it is whole after that, it was whole before, and has them after the others. Else it
-- has the same steps as before. Its memory is no smaller
pub record HearsAll (xs : List (Step CountJob)) (old new : Taped) : Type 0 where
  pub told : new.whole ≡ true → (old.whole ≡ true) × (new.steps ≡ old.steps ++ xs)
  pub lost : new.whole ≡ false → new.steps ≡ old.steps
  pub size : old.size ≤ new.size

-- the same of one step
abbrev pub Hears : Step CountJob → Taped → Taped → Type 0
Hears x old new = HearsAll (x ∷ []) old new

-- The tape was told a step of a server that a tape can name, or of none. It is whole after that if and only if it was whole
-- and had 31 free bytes. At most 20 of them were used
pub record Keeps (named : Bool) (old new : Taped) : Type 0 where
  pub whole : new.whole ≡ (named && old.whole && leb 31 old.room)
  pub room : old.room ≤ new.room + 20

-- how a tape ends that is whole, or is not
abbrev pub ending_of : Bool → Ending
ending_of whole = if whole then Marked else Cut

-- after pieces that were handed out before, these bytes tell the steps of the tape, and how it ends
abbrev pub EndsPieces : List ℕ → Taped → Type 0
EndsPieces bytes tape = (before : List ℕ) → AreEntries before
    → (steps_in (before ++ bytes) ≡ steps_in before ++ tape.steps) × ((told (before ++ bytes)).ending ≡ ending_of tape.whole)

-- the tape was told the steps xs, one after another
abbrev pub HearsEach : List (Step CountJob) → Taped → Taped → Type 0
HearsEach [] old new = old ≡ new
HearsEach (x ∷ xs) old new = (mid : Taped) × Hears x old mid × HearsEach xs mid new

-- the new tape has the steps of the old one, and after them the first of xs, however many, in order
pub record AddsFirst (xs : List (Step CountJob)) (old new : Taped) : Type 0 where
  pub kept : List (Step CountJob)
  pub gone : List (Step CountJob)
  pub all : xs ≡ kept ++ gone
  pub steps : new.steps ≡ old.steps ++ kept

-- The first n bytes of a buffer are those of entries, and tell the steps of the old tape; the other bytes are as before.
-- The new tape has no step, is whole if the old one was, and all its bytes are free
pub record HandsOut (n : ℕ) (old new : Taped) (before after : List ℕ) : Type 0 where
  pub are : AreEntries (take n after)
  pub steps : steps_in (take n after) ≡ old.steps
  pub others : drop n after ≡ drop n before
  pub within : n ≤ length after
  pub same : length after ≡ length before
  pub none : new.steps ≡ []
  pub whole : new.whole ≡ old.whole
  pub room : new.room ≡ new.size
  pub size : old.size ≤ new.size

-- The bytes of one piece after those of another tell the steps of both, in order
abbrev pub Joins : List ℕ → List ℕ → Type 0
Joins a b = AreEntries a → AreEntries b → Tells (steps_in b) a (a ++ b)
