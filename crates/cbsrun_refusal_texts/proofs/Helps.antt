-- A help with words that were made for it.
use Rattle.std.proofs.Common.{◌≡◌, true, List, ℕ, Result, Ok, Err, String, Global}
use Rattle.std.specs.Prelude.{string_bytes, codes, IfOk, MatchResult}
use Rattle.std.specs.declared.alloc.AllocError.{AllocError}
use Rattle.cbsrun_refusal_texts.specs.Over.{IsHelpThat}
use Rattle.cbsrun_refusal_texts.specs.Pages.{PageText, AppendsA, IsNote}

-- the words were made, or the page has failed
pub help_of : (words : Result (String Global) AllocError) (old new : PageText) (Says : List ℕ → Type 0) → IfOk words (λ w. Says (string_bytes w))
    → MatchResult words (λ w. AppendsA (IsNote 3 (codes "help") (string_bytes w)) old new) (λ _. new.failed ≡ true) → AppendsA (IsHelpThat Says) old new
help_of (Ok w) old new Says says note free = let n = note free in (n.0, (string_bytes w, says, n.1), n.2, n.3)
help_of (Err e) old new Says says failed free = cc

-- the words of a note were made, or the page has failed
pub note_of : (margin : ℕ) (kind : List ℕ) (words : Result (String Global) AllocError) (old new : PageText) (text : List ℕ)
    → IfOk words (λ w. string_bytes w ≡ text) → MatchResult words (λ w. AppendsA (IsNote margin kind (string_bytes w)) old new) (λ _. new.failed ≡ true)
    → AppendsA (IsNote margin kind text) old new
note_of margin kind (Ok w) old new text is note free = let n = note free in (n.0, rw is at n.1, n.2, n.3)
note_of margin kind (Err e) old new text is failed free = cc

-- .. the same words
pub note_as : (margin : ℕ) (kind : List ℕ) (words : Result (String Global) AllocError) (old new : PageText) (made text : List ℕ)
    → IfOk words (λ w. string_bytes w ≡ made) → made ≡ text → MatchResult words (λ w. AppendsA (IsNote margin kind (string_bytes w)) old new) (λ _. new.failed ≡ true)
    → AppendsA (IsNote margin kind text) old new
note_as margin kind words old new made text is same note = note_of margin kind words old new text (rw same at is) note
