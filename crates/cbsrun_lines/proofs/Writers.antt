-- What the writers of a run gained.
use Rattle.std.proofs.Common.{◌≡◌, ◌∙◌, ◌+◌, ap, sym, ℕ, List, [], ◌++◌, append_assoc, append-nil, Option, Some, None, Result, Ok, Err, refl, inl, inr}
use Rattle.std.specs.Prelude.{OnOk, OnErr}
use Rattle.std.specs.Io.KnownBytes.{Keeps}
use Rattle.cbsrun_io.proofs.WrittenText.{Appends-then}
use Rattle.cbsrun_lines.specs.Writers.{Writer, IsUntouched, Writes, FailsToWrite, TriesToWrite}

-- a text was written, or a write failed
pub tries : {E : Type 0} (r : Result (Unit {0}) E) (old new : Writer) (text : List ℕ)
    → OnOk r (Writes old new text) → OnErr r (FailsToWrite old new text) → TriesToWrite old new text
tries (Ok x) old new text ok err = inl ok
tries (Err e) old new text ok err = inr err

-- bytes that stay are kept
keeps : (bytes : Option (List ℕ)) → Keeps bytes bytes
keeps None = tt
keeps (Some xs) = refl

-- a writer that nothing was written to is kept
pub untouched : (w : Writer) → IsUntouched w w
untouched w = (keeps w.written, refl)

-- the line of a fault was written, and a text below it is tried
pub tries_below : (old mid new : Writer) (line below : List ℕ) → Writes old mid line → TriesToWrite mid new below → TriesToWrite old new (line ++ below)
tries_below old mid new line below wrote (inl more) =
    inl (Appends-then old.written mid.written new.written line below wrote.0 more.0, more.1 ∙ wrote.1)
tries_below old mid new line below wrote (inr (failed, (front, rest, more, parts))) =
    let whole : line ++ below ≡ (line ++ front) ++ rest = ap (λ t. line ++ t) parts ∙ sym (append_assoc line front rest) in
    let written = Appends-then old.written mid.written new.written line front wrote.0 more in
    inr (failed ∙ ap (λ n. n + 1) wrote.1, (line ++ front, rest, written, whole))

-- nothing is below the line
pub tries_alone : (old new : Writer) (line : List ℕ) → TriesToWrite old new line → TriesToWrite old new (line ++ [])
tries_alone old new line tried = rw (append-nil line) tried
