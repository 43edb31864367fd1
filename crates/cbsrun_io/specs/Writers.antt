-- A writer of bytes, and what a call left in it.
use Rattle.std.specs.Borrow.{Bor}
use Rattle.std.specs.Prelude.{◌≡◌, ℕ, List, [], ◌∷◌, ◌++◌, Option, ◌⊎◌, ◌+◌, ◌-◌, ◌^◌, ◌<◌}
use Rattle.std.specs.Io.KnownBytes.{Appends, Keeps}

-- a prefix of the text was written
abbrev pub AppendsFront : Option (List ℕ) → Option (List ℕ) → List ℕ → Type 0
AppendsFront old new text = (front : List ℕ) × (rest : List ℕ) × Appends old new front × (text ≡ front ++ rest)

-- all of the text was written except its end, which waits
abbrev pub AppendsAllBut : Option (List ℕ) → Option (List ℕ) → List ℕ → List ℕ → Type 0
AppendsAllBut old new waiting text = (front : List ℕ) × Appends old new front × (front ++ waiting ≡ text)

-- the texts, one after another
abbrev pub joined : List (Bor (List ℕ)) → List ℕ
joined [] = []
joined (x ∷ xs) = x.now ++ joined xs

-- a writer: the bytes that were written so far, if they are known, and how many calls failed
pub record Writer : Type 0 where
  pub written : Option (List ℕ)
  pub failed : ℕ

-- one more failed call can be counted
abbrev pub MayWrite : Writer → Type 0
MayWrite w = w.failed < 2 ^ 64 - 1

-- nothing was written, and no call failed
abbrev pub IsUntouched : Writer → Writer → Type 0
IsUntouched old new = Keeps old.written new.written × (new.failed ≡ old.failed)

-- nothing was written, and a call failed
abbrev pub Fails : Writer → Writer → Type 0
Fails old new = Keeps old.written new.written × (new.failed ≡ old.failed + 1)

-- the text was written, and no call failed
abbrev pub Writes : Writer → Writer → List ℕ → Type 0
Writes old new text = Appends old.written new.written text × (new.failed ≡ old.failed)

-- all of the text was written except its end, which waits, and no call failed
abbrev pub WritesAllBut : Writer → Writer → List ℕ → List ℕ → Type 0
WritesAllBut old new waiting text = AppendsAllBut old.written new.written waiting text × (new.failed ≡ old.failed)

-- a prefix of the text was written, and then a call failed
abbrev pub FailsToWrite : Writer → Writer → List ℕ → Type 0
FailsToWrite old new text = (new.failed ≡ old.failed + 1) × AppendsFront old.written new.written text

-- the text was written; or a prefix of it was, and then a call failed
abbrev pub TriesToWrite : Writer → Writer → List ℕ → Type 0
TriesToWrite old new text = Writes old new text ⊎ FailsToWrite old new text
